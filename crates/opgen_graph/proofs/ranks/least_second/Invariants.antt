use Rattle.std.proofs.Common.{ℕ, ◌<◌, get_or}
use Rattle.opgen_graph.specs.Adders.{Comb}
use Rattle.opgen_graph.proofs.ranks.least_second.Given as goal

abbrev pub invariant-loop-v : goal.invariant-loop-v
invariant-loop-v l = (k : ℕ) → k < l.v-index → Comb l.u (get_or l.placed k 0) l.value → ⊥
