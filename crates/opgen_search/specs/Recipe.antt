-- The least set of adders for the odd parts of some numbers, its graph, and the net of several constants by that graph.
use Rattle.std.specs.Prelude.{◌≡◌, ℕ, ℤ, List, All}
use Rattle.opgen_num.specs.declared.limits.TheConstants.{MAX_SEARCHED_CONSTANT}
use Rattle.opgen_net.specs.declared.net.Net.{Net}
use Rattle.opgen_kinds.specs.declared.several.Several.{Several}
use Rattle.opgen_operator.specs.declared.operator.Operator.TheVariants.{Mcm}
use Rattle.opgen_operator.specs.Fits.{FitsInEachMode}
use Rattle.opgen_ports.specs.Ranges.{IsWithin}
use Rattle.opgen_graph.specs.declared.ranks.Graph.{Graph}
use Rattle.opgen_graph.specs.Graphs.{IsRanks}
use Rattle.opgen_graph.specs.Targets.{AreTargetsOf}
use Rattle.opgen_graph.specs.Recipe.{net_of_graph}
use Rattle.opgen_graph.specs.Served.{Serves}
use Rattle.opgen_search.specs.Least.{IsLeast}

-- the least set for the odd parts of some numbers
pub record IsAdderSetOf (numbers : List ℤ) (width extra : ℕ) (set : List ℕ) : Type 0 where
  pub targets : List ℕ
  pub parts : AreTargetsOf numbers targets
  pub least : IsLeast targets width extra set

-- and the graph of that set
pub record IsLeastGraphOf (numbers : List ℤ) (width extra : ℕ) (set : List ℕ) (graph : Graph) : Type 0 where
  pub adders : IsAdderSetOf numbers width extra set
  pub ranks : IsRanks set graph.adders

-- the net of several constants by the graph of their least set
pub record IsNetOfSeveral (several : Several) (net : Net) : Type 0 where
  pub set : List ℕ
  pub graph : Graph
  pub least : IsLeastGraphOf several.constants several.input.width several.extra set graph
  pub by : net ≡ net_of_graph graph several

-- there is one such set, one such graph and one such net
abbrev pub OneAdderSet : Type 0
OneAdderSet = (numbers : List ℤ) (width extra : ℕ) (set other : List ℕ) → IsAdderSetOf numbers width extra set
    → IsAdderSetOf numbers width extra other → set ≡ other

abbrev pub OneLeastGraph : Type 0
OneLeastGraph = (numbers : List ℤ) (width extra : ℕ) (set other : List ℕ) (graph another : Graph)
    → IsLeastGraphOf numbers width extra set graph → IsLeastGraphOf numbers width extra other another → graph ≡ another

abbrev pub OneNet : Type 0
OneNet = (several : Several) (net other : Net) → IsNetOfSeveral several net → IsNetOfSeveral several other → net ≡ other

-- a least set whose graph serves the numbers
pub record HasLeastGraph (numbers : List ℤ) (width extra : ℕ) : Type 0 where
  pub set : List ℕ
  pub graph : Graph
  pub is : IsLeastGraphOf numbers width extra set graph
  pub serves : Serves numbers graph

-- that numbers within the limit of a search have none is impossible
abbrev pub SomeLeastGraph : Type 0
SomeLeastGraph = (numbers : List ℤ) (width extra : ℕ) → All (IsWithin MAX_SEARCHED_CONSTANT) numbers → (HasLeastGraph numbers width extra → ⊥) → ⊥

-- a net by the graph of the least set, which fits
pub record HasNet (several : Several) : Type 0 where
  pub net : Net
  pub is : IsNetOfSeveral several net
  pub fits : FitsInEachMode (Mcm several) net
