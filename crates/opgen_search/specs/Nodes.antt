-- Partial sets inside the search: the members that are placed, in an order in which they can be made, and those that are left.
use Rattle.std.specs.Prelude.{◌≡◌, ℕ, ◌+◌, ◌≤◌, ◌<◌, List, [], ◌∷◌, ◌++◌, length, drop, nat_eq, All, Contains}
use Rattle.std.specs.List.{IsDistinct}
use Rattle.opgen_graph.specs.Reach.{Among, IsBuiltFrom, IsMember}
use Rattle.opgen_search.specs.declared.node.Node.{Node}
use Rattle.opgen_search.specs.Space.{limit}
use Rattle.opgen_search.specs.Members.{Within}

-- 1 is placed first; the others are the members
abbrev pub members : (placed left : List ℕ) → List ℕ
members placed left = drop 1 placed ++ left

-- all members of a node, those that are placed first
abbrev pub members_of : Node → List ℕ
members_of node = members node.placed.items node.left.items

-- the placed members stand in an order in which they can be made, and no member stands twice
pub record IsNode (placed left : List ℕ) : Type 0 where
  pub starts : placed ≡ 1 ∷ drop 1 placed
  pub built : IsBuiltFrom (1 ∷ []) (drop 1 placed)
  pub distinct : IsDistinct nat_eq (members placed left)
  pub adders : All IsMember (members placed left)

-- nothing that is left can be made of what is placed
abbrev pub IsStuck : (placed left : List ℕ) → Type 0
IsStuck placed left = (x : ℕ) → Contains left x → Among placed x → ⊥

-- these have the targets, and so many further members may come to them
pub record HasRoom (targets : List ℕ) (extra : ℕ) (set : List ℕ) (more : ℕ) : Type 0 where
  pub has_targets : Within targets set
  pub few : length set + more ≤ length targets + extra
  pub small : All (λ x. x < limit targets) set
