use Rattle.std.proofs.Common.{◌≡◌, ◌++◌, replicate}
use Rattle.opgen_saturate.proofs.step.push_copies.Given as goal

abbrev pub invariant-copies : goal.invariant-copies
invariant-copies l = l.bits ≡ l.fn.bits ++ replicate l.k l.fn.bit
