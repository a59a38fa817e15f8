use Rattle.std.proofs.Common.{◌≡◌, ◌++◌, take}
use Rattle.opgen_graph.proofs.digit_set.append_partials.Given as goal

abbrev pub invariant-loop-sum : goal.invariant-loop-sum
invariant-loop-sum l = l.set.items ≡ l.fn.set.items ++ take l.sum-index l.sum-items
