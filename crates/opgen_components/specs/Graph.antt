-- Directed graphs, their paths and their strongly connected components.
use Rattle.std.specs.Prelude.{ℕ, ◌≡◌, ◌<◌, ◌≤◌, ◌⊎◌, ◌↔◌, false, IsTrue, List, [], length, map, slice_index_or, Contains, Vec}
use Rattle.opgen_components.specs.declared.Component.{Component}

-- for each node the nodes that it leads to
abbrev pub Graph : Type 0
Graph = List (List ℕ)

abbrev pub links_of : Graph → ℕ → List ℕ
links_of g s = slice_index_or g s []

abbrev pub graph_of : {Z : Type 0} → List (Vec ℕ Z) → Graph
graph_of vs = map (λ v. v.items) vs

-- each link leads to a node
abbrev pub IsGraph : Graph → Type 0
IsGraph g = (s r : ℕ) → Contains (links_of g s) r → r < length g

-- one link or more, each from where the one before it leads to
pub data Path (g : Graph) : ℕ → ℕ → Type 0 where
  link : {s r : ℕ} → Contains (links_of g s) r → Path g s r
  through : {s q r : ℕ} → Path g s q → Path g q r → Path g s r

-- the component of a node
abbrev pub component_of : List Component → ℕ → Component
component_of cs s = slice_index_or cs s (record { number = 0; cyclic = false })

-- two nodes are of one component: there are paths from each to the other
abbrev pub AreTogether : Graph → ℕ → ℕ → Type 0
AreTogether g s r = (s ≡ r) ⊎ (Path g s r × Path g r s)

-- the components of a graph's nodes
pub record AreComponents (g : Graph) (cs : List Component) : Type 0 where
  pub one_each : length cs ≡ length g
  pub numbers : (s r : ℕ) → s < length g → r < length g → (component_of cs s).number ≡ (component_of cs r).number → AreTogether g s r
  pub downwards : (s r : ℕ) → Contains (links_of g s) r → (component_of cs r).number ≤ (component_of cs s).number
  pub cyclic : (s : ℕ) → s < length g → IsTrue (component_of cs s).cyclic ↔ Path g s s
