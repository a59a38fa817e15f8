use Rattle.std.proofs.Common.{ℕ, ◌<◌, ◌≤◌, get_or}
use Rattle.opgen_graph.specs.Adders.{CombEither}
use Rattle.opgen_graph.proofs.makes.makes_among.Given as goal

abbrev pub invariant-loop-k : goal.invariant-loop-k
invariant-loop-k l = (k j : ℕ) → k < l.k → j ≤ k → CombEither (get_or l.placed k 0) (get_or l.placed j 0) l.f → ⊥
