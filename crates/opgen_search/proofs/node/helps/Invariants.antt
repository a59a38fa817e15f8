use Rattle.std.proofs.Common.{ℕ, ◌<◌, ◌++◌, ◌∷◌, [], Contains, get_or}
use Rattle.opgen_graph.specs.Adders.{CombEither}
use Rattle.opgen_search.proofs.node.helps.Given as goal

abbrev pub invariant-loop-n : goal.invariant-loop-n
invariant-loop-n l = (k : ℕ) → k < l.n-index → (v : ℕ) → Contains (l.placed ++ l.member ∷ []) v
    → CombEither l.member v (get_or l.left k 0) → ⊥
