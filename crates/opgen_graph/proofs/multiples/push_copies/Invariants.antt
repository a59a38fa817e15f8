use Rattle.std.proofs.Common.{◌≡◌, ◌++◌, replicate}
use Rattle.opgen_graph.proofs.multiples.push_copies.Given as goal

abbrev pub invariant-copies : goal.invariant-copies
invariant-copies l = l.bits ≡ l.initial.bits ++ replicate l.k l.bit
