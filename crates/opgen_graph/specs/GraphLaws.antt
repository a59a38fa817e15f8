-- Laws of the graph of a set: it has one adder for each member, wired from 1 on, and no other graph is the set's.
use Rattle.std.specs.Prelude.{◌≡◌, ℕ, ◌≤◌, List, [], ◌∷◌, ◌++◌, Contains, IsPermutation}
use Rattle.opgen_graph.specs.declared.ranks.Adder.{Adder}
use Rattle.opgen_graph.specs.Adders.{Makes}
use Rattle.opgen_graph.specs.Reach.{Reachable}
use Rattle.opgen_graph.specs.Graphs.{IsRanks, values}

-- each adder makes its value of two numbers that were placed before it
abbrev pub IsWired : (placed : List ℕ) → List Adder → Type 0
IsWired placed [] = Unit {0}
IsWired placed (a ∷ adders) =
    Contains placed a.u × Contains placed a.v × (1 ≤ a.step.shift) × Makes a.step.form a.step.shift a.u a.v a.value
    × IsWired (placed ++ a.value ∷ []) adders

-- an adder for each member and no other, wired from 1 on
pub record IsGraphOf (set : List ℕ) (adders : List Adder) : Type 0 where
  pub members : IsPermutation set (values adders)
  pub wired : IsWired (1 ∷ []) adders
  pub reachable : Reachable set

abbrev pub RanksAreGraphs : Type 0
RanksAreGraphs = (set : List ℕ) (adders : List Adder) → IsRanks set adders → IsGraphOf set adders

-- a set has one graph by ranks
abbrev pub OneGraph : Type 0
OneGraph = (set : List ℕ) (adders others : List Adder) → IsRanks set adders → IsRanks set others → adders ≡ others
