use Rattle.std.proofs.Common.{◌≡◌, take}
use Rattle.opgen_csd.specs.Digits.{nonzeros}
use Rattle.opgen_csd.proofs.digits.Digits.count.Given as goal

abbrev pub invariant-loop-digit : goal.invariant-loop-digit
invariant-loop-digit l = l.count ≡ nonzeros (take l.digit-index l.digit-items)
