use Rattle.std.proofs.Common.{◌≡◌, map, replicate}
use Rattle.opgen_design.specs.Plain.{plain}
use Rattle.opgen_nonrestoring.proofs.expressions.every.Given as goal

abbrev pub invariant-copies : goal.invariant-copies
invariant-copies l = map plain l.copies.items ≡ replicate l.place (plain l.bit)
