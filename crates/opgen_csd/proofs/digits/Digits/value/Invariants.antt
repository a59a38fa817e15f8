use Rattle.std.proofs.Common.{◌≡◌, take}
use Rattle.opgen_csd.specs.Digits.{value_of}
use Rattle.opgen_csd.proofs.digits.Digits.value.Given as goal

abbrev pub invariant-loop-place : goal.invariant-loop-place
invariant-loop-place l = l.sum ≡ value_of (take l.place l.self-inside.digits)
