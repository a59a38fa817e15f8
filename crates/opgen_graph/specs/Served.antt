-- Adder graphs from which the net of several constants can be built.
use Rattle.std.specs.Prelude.{ℕ, ℤ, List, [], ◌∷◌, All, Contains}
use Rattle.opgen_graph.specs.declared.ranks.Graph.{Graph}
use Rattle.opgen_graph.specs.GraphLaws.{IsWired}
use Rattle.opgen_graph.specs.Graphs.{IsRanks, values}
use Rattle.opgen_graph.specs.Reach.{IsWideMember, Reaches}
use Rattle.opgen_graph.specs.Targets.{IsTargetOf, AreTargetsOf}

-- from 1 on each adder makes an odd number above 1 of two that stand before it, and every odd part of the numbers above 1 is made
pub record Serves (numbers : List ℤ) (graph : Graph) : Type 0 where
  pub wired : IsWired (1 ∷ []) graph.adders
  pub members : All IsWideMember (values graph.adders)
  pub has_parts : (x : ℕ) → IsTargetOf numbers x → Contains (values graph.adders) x

-- the graph of a set that reaches the targets of some numbers, as `reach` answers it, serves them
abbrev pub ReachedSetsServe : Type 0
ReachedSetsServe = (numbers : List ℤ) (targets set : List ℕ) (graph : Graph)
    → AreTargetsOf numbers targets → Reaches targets set → IsRanks set graph.adders → Serves numbers graph
