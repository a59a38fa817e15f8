-- Graphs of adders that numbers of 20 bits share (de Dinechin and Kumm, Application-Specific Arithmetic).
use Rattle.std.specs.Prelude.{ℕ, List, [], ◌∷◌, ◌++◌, All, Contains}
use Rattle.opgen_graph.specs.declared.ranks.Adder.{Adder}
use Rattle.opgen_graph.specs.Graphs.{values}
use Rattle.opgen_graph.specs.GraphLaws.{IsWired}
use Rattle.opgen_graph.specs.Reach.{IsWideMember}

-- each value is none of those before it
abbrev pub AreNew : (placed : List ℕ) → List Adder → Type 0
AreNew placed [] = Unit {0}
AreNew placed (a ∷ adders) = (Contains placed a.value → ⊥) × AreNew (placed ++ a.value ∷ []) adders

-- from 1 on, each adder makes a new number of two that stand before it
pub record IsSharedGraph (adders : List Adder) : Type 0 where
  pub wired : IsWired (1 ∷ []) adders
  pub new : AreNew (1 ∷ []) adders
  pub members : All IsWideMember (values adders)
