-- The depth-first walk that finds strongly connected components: what holds between its steps.
use Rattle.std.specs.Prelude.{ℕ, ◌≡◌, ◌≢◌, ◌+◌, ◌-◌, ◌*◌, ◌<◌, ◌≤◌, ◌⊎◌, Bool, true, false, List, [], ◌∷◌, ◌++◌, length, take, drop, slice_index, slice_index_or, slice_set, slice_get, Contains, Some}
use Rattle.std.specs.List.{AllPairs}
use Rattle.opgen_components.specs.declared.Component.{Component}
use Rattle.opgen_components.specs.declared.walk.Mark.{Mark}
use Rattle.opgen_components.specs.declared.walk.Mark.TheVariants.{New, Open, Done}
use Rattle.opgen_components.specs.declared.walk.Walk.{Walk}
use Rattle.opgen_components.specs.Graph.{Graph, links_of, Path, AreTogether}

abbrev pub IsAscending : List ℕ → Type 0
IsAscending xs = AllPairs (λ x y. x < y) xs

-- the last of a list
abbrev pub IsTop : List ℕ → ℕ → Type 0
IsTop xs x = slice_get xs (length xs - 1) ≡ Some x

abbrev pub mark_of : List Mark → ℕ → Mark
mark_of marks s = slice_index_or marks s New

abbrev pub link_at : Graph → ℕ → ℕ → ℕ
link_at g s k = slice_index (links_of g s) k

-- the node itself, or one that a path leads to
abbrev pub Reaches : Graph → ℕ → ℕ → Type 0
Reaches g s r = (s ≡ r) ⊎ Path g s r

abbrev pub IsDone : List Mark → ℕ → Component → Type 0
IsDone marks s c = mark_of marks s ≡ Done c

-- the nodes that are done: their links lead to such nodes, of no greater numbers
pub record AreSettled (g : Graph) (marks : List Mark) (count : ℕ) : Type 0 where
  pub downwards : (s k : ℕ) (c : Component) → IsDone marks s c → k < length (links_of g s)
      → (b : Component) × IsDone marks (link_at g s k) b × (b.number ≤ c.number)
  pub numbers : (s : ℕ) (c : Component) → IsDone marks s c → c.number < count
  pub together : (s r : ℕ) (c b : Component) → IsDone marks s c → IsDone marks r b → c.number ≡ b.number → AreTogether g s r
  pub alone : (s r : ℕ) (c b : Component) → IsDone marks s c → c.cyclic ≡ false → IsDone marks r b → c.number ≡ b.number → r ≡ s
  pub straight : (s k : ℕ) (c : Component) → IsDone marks s c → c.cyclic ≡ false → k < length (links_of g s) → link_at g s k ≢ s
  pub cyclic : (s : ℕ) (c : Component) → IsDone marks s c → c.cyclic ≡ true → Path g s s

-- a link from a place of the path was followed: to a node that is done, or to one that no group's begin lies between
abbrev pub IsFollowed : (bounds : List ℕ) → Mark → (place : ℕ) → Type 0
IsFollowed bounds New place = ⊥
IsFollowed bounds (Open p) place = (b : ℕ) → Contains bounds b → b ≤ place → b ≤ p
IsFollowed bounds (Done c) place = Unit {0}

-- the nodes on the path, in groups that begin at the bounds
pub record IsPath (g : Graph) (marks : List Mark) (next path bounds open_places : List ℕ) : Type 0 where
  pub marked : (i : ℕ) → i < length path → mark_of marks (slice_index path i) ≡ Open i
  pub placed : (s p : ℕ) → mark_of marks s ≡ Open p → (p < length path) × (slice_index path p ≡ s)
  pub new : (s : ℕ) → mark_of marks s ≡ New → slice_index next s ≡ 0
  pub reaches : (i j : ℕ) → i ≤ j → j < length path → Reaches g (slice_index path i) (slice_index path j)
  pub begins : (i : ℕ) → i < length path → (b : ℕ) × Contains bounds b × (b ≤ i) × Reaches g (slice_index path i) (slice_index path b)
  pub followed : (i k : ℕ) → i < length path → k < slice_index next (slice_index path i)
      → IsFollowed bounds (mark_of marks (link_at g (slice_index path i) k)) i
  pub finished : (i : ℕ) → i < length path
      → Contains open_places i ⊎ (length (links_of g (slice_index path i)) ≤ slice_index next (slice_index path i))
  pub open_within : (i : ℕ) → Contains open_places i → i < length path
  pub open_up : IsAscending open_places
  pub bounds_up : IsAscending bounds
  pub bounds_open : (b : ℕ) → Contains bounds b → Contains open_places b

pub record IsWalkOf (g : Graph) (marks : List Mark) (next path bounds open_places : List ℕ) (count : ℕ) : Type 0 where
  pub marks_length : length marks ≡ length g
  pub next_length : length next ≡ length g
  pub settled : AreSettled g marks count
  pub on_path : IsPath g marks next path bounds open_places

abbrev pub IsWalk : Graph → Walk → Type 0
IsWalk g w = IsWalkOf g w.marks.items w.next.items w.path.items w.bounds.items w.open_places.items (length w.done.items)

-- the marks where each of these nodes has a mark
abbrev pub marked : List Mark → List ℕ → Mark → List Mark
marked ms [] m = ms
marked ms (n ∷ ns) m = marked (slice_set ms n m) ns m

-- how many links were not followed
abbrev pub left : Graph → List ℕ → ℕ
left [] next = 0
left (links ∷ g) [] = 0
left (links ∷ g) (n ∷ next) = (length links - n) + left g next

-- what is to be done, in steps
abbrev pub work : Graph → Walk → ℕ
work g w = 2 * left g w.next.items + length w.open_places.items

-- what was met stays so
abbrev pub KeepsMet : Walk → Walk → Type 0
KeepsMet old now = (s : ℕ) → mark_of old.marks.items s ≢ New → mark_of now.marks.items s ≢ New

-- these links of the node at a place of the path lead back to it
abbrev pub LinksBack : Walk → (place : ℕ) → (links : List ℕ) → Type 0
LinksBack w place links = Contains links (slice_index w.path.items place)

-- the place of the path where the last group begins
abbrev pub last_bound : Walk → ℕ
last_bound w = slice_index w.bounds.items (length w.bounds.items - 1)

-- the marks after the nodes of the path from a place on became a component; its number is how many nodes were done before
abbrev pub closed_marks : Walk → (place : ℕ) → (is_cyclic : Bool) → List Mark
closed_marks w place is_cyclic =
    marked w.marks.items (drop place w.path.items) (Done (record { number = length w.done.items; cyclic = is_cyclic }))

-- a new node at the end of the path, in a group of its own
pub record Entered (old : Walk) (node : ℕ) (now : Walk) : Type 0 where
  pub marks : now.marks.items ≡ slice_set old.marks.items node (Open (length old.path.items))
  pub next : now.next.items ≡ old.next.items
  pub path : now.path.items ≡ old.path.items ++ node ∷ []
  pub bounds : now.bounds.items ≡ old.bounds.items ++ length old.path.items ∷ []
  pub open_places : now.open_places.items ≡ old.open_places.items ++ length old.path.items ∷ []
  pub done : now.done.items ≡ old.done.items

-- the groups from a place on are one
pub record Joined (old : Walk) (place : ℕ) (now : Walk) : Type 0 where
  pub marks : now.marks.items ≡ old.marks.items
  pub next : now.next.items ≡ old.next.items
  pub path : now.path.items ≡ old.path.items
  pub open_places : now.open_places.items ≡ old.open_places.items
  pub done : now.done.items ≡ old.done.items
  pub up : IsAscending now.bounds.items
  pub there : (b : ℕ) → Contains now.bounds.items b → Contains old.bounds.items b
  pub within : (b : ℕ) → Contains now.bounds.items b → b ≤ place
  pub kept : (b : ℕ) → Contains old.bounds.items b → b ≤ place → Contains now.bounds.items b

-- what following a link to a node does, by the node's mark
abbrev pub Follows : Mark → (old : Walk) → (node : ℕ) → (now : Walk) → Type 0
Follows New old node now = Entered old node now
Follows (Open place) old node now = Joined old place now
Follows (Done c) old node now = now ≡ old

-- the last open node is finished, and its group goes on
pub record Finished (old now : Walk) : Type 0 where
  pub marks : now.marks.items ≡ old.marks.items
  pub next : now.next.items ≡ old.next.items
  pub path : now.path.items ≡ old.path.items
  pub bounds : now.bounds.items ≡ old.bounds.items
  pub open_places : now.open_places.items ≡ take (length old.open_places.items - 1) old.open_places.items
  pub done : now.done.items ≡ old.done.items

-- the last open node is finished, and its group is a component
pub record Closed (old : Walk) (place : ℕ) (is_cyclic : Bool) (now : Walk) : Type 0 where
  pub marks : now.marks.items ≡ closed_marks old place is_cyclic
  pub next : now.next.items ≡ old.next.items
  pub path : now.path.items ≡ take place old.path.items
  pub bounds : now.bounds.items ≡ take (length old.bounds.items - 1) old.bounds.items
  pub open_places : now.open_places.items ≡ take (length old.open_places.items - 1) old.open_places.items
  pub done : length now.done.items ≡ length old.done.items + (length old.path.items - place)

-- the component of a node that is done
abbrev pub component_at : Mark → Component
component_at (Done c) = c
component_at _ = record { number = 0; cyclic = false }
