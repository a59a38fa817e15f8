use Rattle.std.proofs.Common.{◌*◌, ◌∙◌, ap, arith}
use Rattle.opgen_num.specs.Formats.{digit_count}
use Rattle.opgen_ports.proofs.Bounds.{guard_is}
use Rattle.opgen_kinds.proofs.of_kind.Results.{guard_few, guard_some}
use Rattle.opgen_kinds.proofs.poly.Poly.guard_bits.Goals as goal

pub returns-clause-value : goal.returns-clause-value
returns-clause-value c =
    guard_is (3 * c.degree.result) c.guard.result c.guard.ensures.holds c.guard.ensures.least
    ∙ ap (λ n. digit_count (3 * n)) c.degree.ensures.value

pub returns-clause-some : goal.returns-clause-some
returns-clause-some c = omega (arith, guard_some c.args.self.now c.requires, returns-clause-value c)

pub returns-clause-few : goal.returns-clause-few
returns-clause-few c = omega (arith, guard_few c.args.self.now c.requires, returns-clause-value c)
