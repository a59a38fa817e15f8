use Rattle.std.proofs.Common.{ℕ, ◌<◌, length, get_or}
use Rattle.opgen_graph.specs.Adders.{Comb}
use Rattle.opgen_graph.proofs.ranks.first_adder.Given as goal

abbrev pub invariant-loop-u : goal.invariant-loop-u
invariant-loop-u l = (k j : ℕ) → k < l.u-index → j < length l.placed → Comb (get_or l.placed k 0) (get_or l.placed j 0) l.value → ⊥
