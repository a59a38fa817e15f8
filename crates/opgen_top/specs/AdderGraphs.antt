-- The adder graph of several constants and of transposed filters: that of the least set, which is searched for, or that of a fixed
-- rule.
use Rattle.std.specs.Prelude.{◌≡◌, ◌↔◌, ℕ, ℤ, Bool, true, false, List, Contains}
use Rattle.std.specs.List.Sorted.{IsStrictlyIncreasing}
use Rattle.opgen_net.specs.declared.net.Net.{Net}
use Rattle.opgen_kinds.specs.declared.several.Several.{Several}
use Rattle.opgen_kinds.specs.declared.taps.Taps.{Taps}
use Rattle.opgen_graph.specs.declared.ranks.Graph.{Graph}
use Rattle.opgen_graph.specs.Graphs.{values}
use Rattle.opgen_graph.specs.Recipe.{net_of_graph}
use Rattle.opgen_search.specs.Recipe.{IsLeastGraphOf}
use Rattle.opgen_shared.specs.Rule.{IsRuleGraph}
use Rattle.opgen_tfir.specs.Recipe.{net_of_taps}

-- the graph of the rule, and its numbers, increasing
pub record IsRuleGraphOf (numbers : List ℤ) (set : List ℕ) (graph : Graph) : Type 0 where
  pub rule : IsRuleGraph numbers graph.adders
  pub increasing : IsStrictlyIncreasing set
  pub members : (x : ℕ) → Contains set x ↔ Contains (values graph.adders) x

-- the graph of some numbers, and the numbers of the graph
abbrev pub IsGraphOf : (searched : Bool) → (numbers : List ℤ) (width extra : ℕ) (set : List ℕ) (graph : Graph) → Type 0
IsGraphOf true numbers width extra set graph = IsLeastGraphOf numbers width extra set graph
IsGraphOf false numbers width extra set graph = IsRuleGraphOf numbers set graph

pub record AreGraphNumbers (searched : Bool) (numbers : List ℤ) (width extra : ℕ) (set : List ℕ) : Type 0 where
  pub graph : Graph
  pub is : IsGraphOf searched numbers width extra set graph

-- the net of several constants by their graph
pub record IsNetOfConstants (m : Several) (net : Net) : Type 0 where
  pub set : List ℕ
  pub graph : Graph
  pub is : IsGraphOf m.searched m.constants m.input.width m.extra set graph
  pub by : net ≡ net_of_graph graph m

-- the net of a transposed filter by the graph of its taps
pub record IsNetOfTaps (f : Taps) (net : Net) : Type 0 where
  pub set : List ℕ
  pub graph : Graph
  pub is : IsGraphOf f.searched f.taps f.input.width f.extra set graph
  pub by : net ≡ net_of_taps f graph
