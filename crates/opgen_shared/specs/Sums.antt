-- The numbers that stand while a graph grows: 1 and the values of its adders. Their levels are above 0, those of other numbers
-- are 0.
use Rattle.std.specs.Prelude.{◌≡◌, ◌↔◌, ℕ, ◌<◌, ◌^◌, List, ◌∷◌, length, slice_index, Contains}
use Rattle.opgen_graph.specs.declared.ranks.Adder.{Adder}
use Rattle.opgen_graph.specs.Graphs.{values}
use Rattle.opgen_shared.specs.Levels.{level}
use Rattle.opgen_shared.specs.Shared.{IsSharedGraph}

abbrev pub placed_by : List Adder → List ℕ
placed_by adders = 1 ∷ values adders

pub record AreSums (adders : List Adder) (levels : List ℕ) : Type 0 where
  pub graph : IsSharedGraph adders
  pub size : length levels ≡ 2 ^ 21
  pub marks : (x : ℕ) → x < 2 ^ 21 → (0 < slice_index levels x) ↔ Contains (placed_by adders) x
  pub known : (x : ℕ) → x < 2 ^ 21 → slice_index levels x ≡ level adders x
