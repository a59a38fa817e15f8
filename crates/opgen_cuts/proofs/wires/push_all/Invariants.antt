use Rattle.std.proofs.Common.{◌≡◌, ◌++◌, take}
use Rattle.opgen_cuts.proofs.wires.push_all.Given as goal

abbrev pub invariant-more : goal.invariant-more
invariant-more l = l.bits ≡ l.initial.bits ++ take l.bit-index l.more
