use Rattle.std.proofs.Common.{ℕ, ◌<◌, get_or}
use Rattle.opgen_graph.specs.Reach.{Among}
use Rattle.opgen_search.proofs.node.next_made.Given as goal

abbrev pub invariant-loop-place : goal.invariant-loop-place
invariant-loop-place l = (k : ℕ) → k < l.place → Among l.placed (get_or l.left k 0) → ⊥
