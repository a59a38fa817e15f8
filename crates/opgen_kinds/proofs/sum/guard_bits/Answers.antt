use Rattle.std.proofs.Common.{◌∙◌, ap, arith}
use Rattle.opgen_num.specs.Formats.{digit_count}
use Rattle.opgen_ports.proofs.Bounds.{guard_is}
use Rattle.opgen_kinds.proofs.sum.guard_bits.Goals as goal

pub returns-in-Some-clause-value : goal.returns-in-Some-clause-value
returns-in-Some-clause-value c =
    let least = guard_is c.tables.result c.guard.result c.guard.ensures.holds c.guard.ensures.least in
    rw (← c.in-Some.ensures) (least ∙ ap digit_count c.tables.ensures.value)

pub returns-in-Some-clause-bound : goal.returns-in-Some-clause-bound
returns-in-Some-clause-bound c = c.guard.ensures.least 12 (omega (arith, c.tables.ensures.bound))
