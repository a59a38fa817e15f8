use Rattle.std.proofs.Common.{◌≡◌, take}
use Rattle.opgen_pipe.specs.Zeros.{zero_words}
use Rattle.opgen_pipe.proofs.zeros.zero_words.Given as goal

abbrev pub invariant-nodes : goal.invariant-nodes
invariant-nodes l = l.words.items ≡ take l.node-index (zero_words l.net)
