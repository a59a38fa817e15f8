use Rattle.std.proofs.Common.{ℕ, ◌<◌, get_or}
use Rattle.opgen_graph.specs.Adders.{CombEither}
use Rattle.opgen_graph.proofs.makes.makes_with.Given as goal

abbrev pub invariant-loop-v : goal.invariant-loop-v
invariant-loop-v l = (k : ℕ) → k < l.v-index → CombEither l.u (get_or l.others k 0) l.f → ⊥
