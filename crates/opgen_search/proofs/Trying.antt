-- What the tries of a node cover.
use Rattle.std.proofs.Common.{◌≡◌, ◌⊎◌, inl, inr, ⊎_elim, ℕ, suc, ◌+◌, ◌-◌, ◌%◌, ◌^◌, ◌≤◌, ◌<◌, List, [], ◌∷◌, ◌++◌, length, drop, take, get_or, Option, Some, Contains, IsPermutation, refl, sym, ap, subst, ◌∙◌, arith}
use lib.Dec.{eqb}
use Rattle.std.specs.List.{IsDistinct}
use Rattle.std.specs.List.Sorted.{IsNonDecreasing}
use Rattle.std.proofs.lemmas.List.{append-nil, take_all, take_more}
use Rattle.std.proofs.lemmas.List.Sums.{sum_by-cons, sum_by-append, sum_by-le}
use Rattle.std.proofs.lemmas.List.Elements.{All-contains, All-cons, Contains-append_left, Contains-append_right, Contains-append_cases}
use Rattle.std.proofs.lemmas.List.Sorted.{IsPermutation-sym, IsPermutation-trans, Contains-permutation, All-permutation, length_permutation, sum_by-IsPermutation}
use Rattle.opgen_graph.specs.SetCost.{set_cost, adder_cost}
use Rattle.opgen_graph.specs.Reach.{Among, IsMember}
use Rattle.opgen_graph.proofs.Members.{of_cons, of_nil, of_one, all_of}
use Rattle.opgen_graph.proofs.SignedSets.{climbs}
use Rattle.opgen_search.specs.declared.hunt.Search.{Search}
use Rattle.opgen_search.specs.declared.hunt.Piece.{Piece}
use Rattle.opgen_search.specs.declared.hunt.Hunt.{Hunt}
use Rattle.opgen_search.specs.Space.{limit, IsCandidate}
use Rattle.opgen_search.specs.Members.{Within}
use Rattle.opgen_search.specs.Nodes.{members, IsNode, IsStuck, HasRoom}
use Rattle.opgen_search.specs.Hunts.{IsChoice, IsSearch, IsPiece, IsHunt, IsSettled, IsLater, IsCovered, IsLeastOf, least_with, own_of, takes}
use Rattle.opgen_search.proofs.Limits.{limit_small}
use Rattle.opgen_search.proofs.Leasts.{least_more, least_moved, taken_of, of_taken}
use Rattle.opgen_search.proofs.Sets.{distinct_climbs, grown, one_more, distinct_cons, same_set, within_permutation, increasing_sorted}
use Rattle.opgen_search.proofs.NodeLaws.{placed_cases, placed_member, added, added_members, next_member, not_reachable}

-- ---- a node with nothing left
pub whole : (placed : List ℕ) → members placed [] ≡ drop 1 placed
whole placed = append-nil (drop 1 placed)

pub candidate : (targets : List ℕ) (extra : ℕ) (placed set : List ℕ) → IsNode placed [] → HasRoom targets extra (members placed []) 0
    → IsPermutation (drop 1 placed) set → IsNonDecreasing set → IsCandidate targets extra set
candidate targets extra placed set n room p up =
    let q : IsPermutation (members placed []) set = subst (λ xs. IsPermutation xs set) (sym (whole placed)) p in
    record {
      increasing = increasing_sorted (members placed []) set n.distinct q up;
      has_targets = λ t c. Contains-permutation _ set t q (room.has_targets t c);
      few = omega (arith, room.few, length_permutation _ _ q);
      range = all_of (λ x. (x % 2 ≡ 1) × (1 < x) × (x < limit targets)) set
          (λ x c. let back = Contains-permutation set (members placed []) x (IsPermutation-sym _ _ q) c in
          let m = All-contains IsMember (members placed []) x n.adders back in
          (m.0, m.1, All-contains (λ y. y < limit targets) (members placed []) x room.small back));
      reachable = (drop 1 placed, IsPermutation-sym _ _ p, n.built);
    }

-- and is one of the piece that takes its least further member
pub own_set : (piece : Piece) (placed set : List ℕ) (least : Option ℕ) → IsNode placed []
    → HasRoom piece.search.now.targets.items piece.search.now.extra (members placed []) 0
    → IsLeastOf piece.search.now.targets.items (members placed []) least → takes piece least → IsPermutation (drop 1 placed) set
    → IsNonDecreasing set → own_of piece set
own_set piece placed set least n room h t p up =
    let q : IsPermutation (members placed []) set = subst (λ xs. IsPermutation xs set) (sym (whole placed)) p in (
      candidate piece.search.now.targets.items piece.search.now.extra placed set n room p up,
      of_taken _ _ _ set least (least_moved _ (members placed []) set least q h) t,
    )

-- a larger set is this one, or it costs more
pub same_or_dearer : (targets : List ℕ) (width extra : ℕ) (placed set other : List ℕ) → 1 ≤ width → IsNode placed []
    → IsPermutation (drop 1 placed) set → IsNonDecreasing set → IsCandidate targets extra other → Within (members placed []) other
    → (set ≡ other) ⊎ (set_cost width set < set_cost width other)
same_or_dearer targets width extra placed set other one n p up c w =
    let q : IsPermutation (members placed []) set = subst (λ xs. IsPermutation xs set) (sym (whole placed)) p in
    ⊎_elim
    (λ (same : IsPermutation other (members placed [])).
    let r = IsPermutation-trans _ _ _ same q in
    inl (same_set set other (increasing_sorted (members placed []) set n.distinct q up) c.increasing
    (within_permutation set other (IsPermutation-sym other set r)) (within_permutation other set r)))
    (λ (more : (length (members placed []) < length other) × (set_cost width (members placed []) < set_cost width other)).
    inr (omega (arith, more.1, sum_by-IsPermutation (adder_cost width) _ _ q)))
    (grown width (members placed []) other one n.distinct w)

with_one : (set other : List ℕ) (m : ℕ) → Within set other → Contains other m → Within (m ∷ set) other
with_one set other m w c x i = ⊎_elim (λ (e : m ≡ x). subst (Contains other) e c) (λ (k : Contains set x). w x k) (of_cons m x set i)

-- ---- a later hunt
pub later_itself : (piece : Piece) (hunt : Hunt) → IsLater piece hunt hunt
later_itself piece hunt = record { settled = λ set s. s; share = refl; start = refl }

pub later_later : (piece : Piece) (before middle after : Hunt) → IsLater piece before middle → IsLater piece middle after
    → IsLater piece before after
later_later piece before middle after l k =
    record { settled = λ set s. k.settled set (l.settled set s); share = k.share ∙ l.share; start = k.start ∙ l.start }

-- ---- the loop over further members
pub record Tried (piece : Piece) (before after : Hunt) (placed left : List ℕ) (more : ℕ) (done : List ℕ) : Type 0 where
  pub hunt : IsHunt piece after
  pub later : IsLater piece before after
  pub tried : (other : List ℕ) → own_of piece other → Within (members placed left) other
      → length other ≤ length (members placed left) + more → (f : ℕ) → Contains done f → Contains other f
      → (Contains (members placed left) f → ⊥) → Among placed f → IsSettled piece after other

pub tried_none : (piece : Piece) (before after : Hunt) (placed left : List ℕ) (more : ℕ) (choices : List ℕ) → IsHunt piece after
    → IsLater piece before after → Tried piece before after placed left more (take 0 choices)
tried_none piece before after placed left more choices h l =
    record { hunt = h; later = l; tried = λ other own w few f c f_in out made. absurd (of_nil f c) }

pub tried_more : (piece : Piece) (before middle after : Hunt) (placed left : List ℕ) (more : ℕ) (choices : List ℕ) (i m : ℕ)
    → i < length choices → m ≡ get_or choices i 0 → Tried piece before middle placed left more (take i choices) → IsHunt piece after
    → IsLater piece middle after → ((other : List ℕ) → own_of piece other → Within (members placed left) other
    → length other ≤ length (members placed left) + more → Contains other m → (Contains (members placed left) m → ⊥) → Among placed m
    → IsSettled piece after other) → Tried piece before after placed left more (take (i + 1) choices)
tried_more piece before middle after placed left more choices i m lt at t h l all = record {
  hunt = h;
  later = later_later piece before middle after t.later l;
  tried = λ other own w few f c f_in out made.
      ⊎_elim (λ (k : Contains (take i choices) f). l.settled other (t.tried other own w few f k f_in out made))
      (λ (k : Contains (get_or choices i 0 ∷ []) f).
      let same : f ≡ m = sym (of_one (get_or choices i 0) f k) ∙ sym at in
      all other own w few (subst (Contains other) same f_in) (λ held. out (subst (Contains (members placed left)) (sym same) held))
      (subst (Among placed) same made))
      (Contains-append_cases (take i choices) (get_or choices i 0 ∷ []) f (subst (λ xs. Contains xs f) (take_more choices i 0 lt) c));
}

-- a node that is no set of the piece is none of its sets
abbrev pub IsOpen : Piece → (left : List ℕ) → (least : Option ℕ) → Type 0
IsOpen piece left least = (0 < length left) ⊎ (takes piece least → ⊥)

not_itself : (piece : Piece) (placed left : List ℕ) (least : Option ℕ) (other : List ℕ) → IsNode placed left → IsStuck placed left
    → IsOpen piece left least → IsLeastOf piece.search.now.targets.items (members placed left) least → own_of piece other
    → IsPermutation other (members placed left) → ⊥
not_itself piece placed left least other n stuck (inl some) h own p = not_reachable placed left other n stuck some p own.0.reachable
not_itself piece placed left least other n stuck (inr non) h own p =
    non (taken_of _ _ _ other least (least_moved _ (members placed left) other least (IsPermutation-sym _ _ p) h) own.1)

own_distinct : (piece : Piece) (other : List ℕ) → own_of piece other → IsDistinct eqb other
own_distinct piece other own = distinct_climbs other (climbs other own.0.increasing)

-- a further member of a set of the piece that can be made now
next_own : (piece : Piece) (placed left : List ℕ) (least : Option ℕ) (other : List ℕ) → IsNode placed left → IsStuck placed left
    → IsOpen piece left least → IsLeastOf piece.search.now.targets.items (members placed left) least → own_of piece other
    → Within (members placed left) other → (f : ℕ) × Contains other f × (Contains (members placed left) f → ⊥) × Among placed f
next_own piece placed left least other n stuck open_node h own w =
    let (x, x_in, x_out) = one_more (members placed left) other n.distinct (own_distinct piece other own) w
    (not_itself piece placed left least other n stuck open_node h own) in
    let x_large = (All-contains (IsChoice (limit piece.search.now.targets.items)) other x own.0.range x_in).1 in
    next_member placed left other x n stuck x_in (λ c. ⊎_elim (λ (e : 1 ≡ x). omega (arith, e, x_large))
    (λ (k : Contains (drop 1 placed) x). x_out (Contains-append_left (drop 1 placed) left x k))
    (placed_cases placed x n.starts c)) own.0.reachable

-- the last further member decides whose set it is
pub last_taken : (piece : Piece) (placed left : List ℕ) (least : Option ℕ) (other : List ℕ) (m more : ℕ) → IsPiece piece
    → IsNode placed left → HasRoom piece.search.now.targets.items piece.search.now.extra (members placed left) more
    → IsLeastOf piece.search.now.targets.items (members placed left) least → own_of piece other → Within (members placed left) other
    → Contains other m → (Contains (members placed left) m → ⊥) → length other ≤ length (members placed left) + more → more ≤ 1
    → takes piece (Some (least_with least m))
last_taken piece placed left least other m more s n room h own w m_in out few one =
    let bigger = least_more piece.search.now.targets.items (members placed left) least m (λ c. out (room.has_targets m c)) h in
    ⊎_elim (λ (p : IsPermutation other (m ∷ members placed left)). taken_of _ _ _ other (Some (least_with least m))
    (least_moved _ (m ∷ members placed left) other (Some (least_with least m)) (IsPermutation-sym _ _ p) bigger) own.1)
    (λ (g : (length (m ∷ members placed left) < length other)
    × (set_cost piece.search.now.width (m ∷ members placed left) < set_cost piece.search.now.width other)). absurd
    (omega (arith, g.0, few, one)))
    (grown piece.search.now.width (m ∷ members placed left) other s.search.width.0 (distinct_cons m (members placed left) out n.distinct)
    (with_one (members placed left) other m w m_in))

pub tried_all : (piece : Piece) (before after : Hunt) (placed left : List ℕ) (least : Option ℕ) (more : ℕ) (choices : List ℕ) (i : ℕ)
    → IsPiece piece → IsNode placed left → IsStuck placed left → IsOpen piece left least
    → HasRoom piece.search.now.targets.items piece.search.now.extra (members placed left) more
    → IsLeastOf piece.search.now.targets.items (members placed left) least
    → ((x : ℕ) → IsChoice piece.search.now.limit x → (more ≤ 1 → takes piece (Some (least_with least x))) → Contains choices x)
    → length choices ≤ i → Tried piece before after placed left more (take i choices) → IsCovered piece after (members placed left) more
tried_all piece before after placed left least more choices i s n stuck open_node room h every le t other own w few =
    let (f, f_in, out, made) = next_own piece placed left least other n stuck open_node h own w in
    let range = All-contains (IsChoice (limit piece.search.now.targets.items)) other f own.0.range f_in in
    let choice : IsChoice piece.search.now.limit f = (range.0, range.1, omega (arith, range.2, s.search.limit_is)) in
    let chosen = every f choice (last_taken piece placed left least other f more s n room h own w f_in out few) in
    t.tried other own w few f (subst (λ xs. Contains xs f) (sym (take_all i choices le)) chosen) f_in out made

-- ---- one further member
pub too_dear : (piece : Piece) (hunt : Hunt) (set other : List ℕ) (m spent price : ℕ) → IsPiece piece → IsDistinct eqb set
    → (Contains set m → ⊥) → Within set other → Contains other m → spent ≡ set_cost piece.search.now.width set
    → price ≡ set_cost piece.search.now.width (m ∷ []) → hunt.known < spent + price → IsSettled piece hunt other
too_dear piece hunt set other m spent price s d out w c e price_is lt =
    let width = piece.search.now.width in
    let dear : hunt.known < set_cost width (m ∷ set) =
    omega (arith, lt, e, price_is, sum_by-cons (adder_cost width) m set, sum_by-cons (adder_cost width) m []) in
    ⊎_elim (λ (p : IsPermutation other (m ∷ set)). inr (omega (arith, dear, sum_by-IsPermutation (adder_cost width) _ _ p)))
    (λ (g : (length (m ∷ set) < length other) × (set_cost width (m ∷ set) < set_cost width other)). inr (omega (arith, dear, g.1)))
    (grown width (m ∷ set) other s.search.width.0 (distinct_cons m set out d) (with_one set other m w c))

pub useless_last : (search : Search) (placed left other : List ℕ) (m : ℕ) → IsSearch search → IsNode placed left → 0 < length left
    → IsMember m → (Contains (members placed left) m → ⊥) → Among placed m → IsStuck (placed ++ m ∷ []) left
    → IsCandidate search.targets.items search.extra other → Within (members placed left) other → Contains other m
    → length other ≤ length (members placed left) + 1 → ⊥
useless_last search placed left other m s n some is_member out made stuck c w m_in few =
    let next = added placed left m n out is_member made in
    let moved = added_members placed left m n.starts in
    ⊎_elim (λ (p : IsPermutation other (m ∷ members placed left)). not_reachable (placed ++ m ∷ []) left other next stuck some
    (IsPermutation-trans _ _ _ p moved) c.reachable)
    (λ (g : (length (m ∷ members placed left) < length other)
    × (set_cost search.width (m ∷ members placed left) < set_cost search.width other)). omega (arith, g.0, few))
    (grown search.width (m ∷ members placed left) other s.width.0 (distinct_cons m (members placed left) out n.distinct)
    (with_one (members placed left) other m w m_in))

pub room_more : (targets : List ℕ) (extra : ℕ) (placed left : List ℕ) (m more : ℕ) → placed ≡ 1 ∷ drop 1 placed
    → HasRoom targets extra (members placed left) more → 0 < more → m < limit targets
    → HasRoom targets extra (members (placed ++ m ∷ []) left) (more - 1)
room_more targets extra placed left m more starts room pos small =
    let moved = added_members placed left m starts in
    record {
      has_targets = λ t c. Contains-permutation _ _ t moved (later t (room.has_targets t c));
      few = omega (arith, room.few, pos, length_permutation _ _ moved);
      small = All-permutation (λ x. x < limit targets) _ _ moved
          (All-cons (λ x. x < limit targets) m (members placed left) small room.small);
    }
  where
    later : (t : ℕ) → Contains (members placed left) t → Contains (m ∷ members placed left) t
    later t c = (suc c.0, omega (arith, c.1), c.2)

pub least_next : (targets : List ℕ) (extra : ℕ) (placed left : List ℕ) (least : Option ℕ) (m more : ℕ) → placed ≡ 1 ∷ drop 1 placed
    → HasRoom targets extra (members placed left) more → (Contains (members placed left) m → ⊥)
    → IsLeastOf targets (members placed left) least → IsLeastOf targets (members (placed ++ m ∷ []) left) (Some (least_with least m))
least_next targets extra placed left least m more starts room out h =
    least_moved targets (m ∷ members placed left) (members (placed ++ m ∷ []) left) (Some (least_with least m))
    (added_members placed left m starts) (least_more targets (members placed left) least m (λ c. out (room.has_targets m c)) h)

pub within_more_members : (placed left other : List ℕ) (m : ℕ) → placed ≡ 1 ∷ drop 1 placed → Within (members placed left) other
    → Contains other m → Within (members (placed ++ m ∷ []) left) other
within_more_members placed left other m starts w c x i =
    with_one (members placed left) other m w c x (Contains-permutation _ _ x (IsPermutation-sym _ _ (added_members placed left m starts)) i)

pub fewer : (placed left : List ℕ) (m more n : ℕ) → placed ≡ 1 ∷ drop 1 placed → 0 < more → n ≤ length (members placed left) + more
    → n ≤ length (members (placed ++ m ∷ []) left) + (more - 1)
fewer placed left m more n starts pos h = omega (arith, h, pos, length_permutation _ _ (added_members placed left m starts))

-- ---- a closed node has the same members
pub room_moved : (targets : List ℕ) (extra : ℕ) (set moved : List ℕ) (more : ℕ) → IsPermutation set moved
    → HasRoom targets extra set more → HasRoom targets extra moved more
room_moved targets extra set moved more p room = record {
  has_targets = λ t c. Contains-permutation set moved t p (room.has_targets t c);
  few = omega (arith, room.few, length_permutation _ _ p);
  small = All-permutation (λ x. x < limit targets) set moved p room.small;
}

pub set_count : (search : Search) (placed set : List ℕ) → IsSearch search
    → HasRoom search.targets.items search.extra (members placed []) 0 → IsPermutation (drop 1 placed) set → length set < 2 ^ 31
set_count search placed set s room p = omega (arith, s.count, room.few, length_permutation _ _ p, ap length (whole placed))

-- what a set in the making costs
pub members_cost : (search : Search) (placed left : List ℕ) (more : ℕ) → IsSearch search
    → HasRoom search.targets.items search.extra (members placed left) more → set_cost search.width (members placed left) < 2 ^ 60
members_cost search placed left more s room =
    let bound = sum_by-le (adder_cost search.width) (2 ^ 32) (members placed left)
    (all_of (λ x. adder_cost search.width x ≤ 2 ^ 32) (members placed left) (λ x _. omega (arith, s.width))) in
    omega (arith, bound, s.count, room.few)

pub member_cost : (search : Search) (m : ℕ) → IsSearch search → set_cost search.width (m ∷ []) < 2 ^ 60
member_cost search m s = omega (arith, s.width, sum_by-cons (adder_cost search.width) m [])

pub split_cost : (search : Search) (placed left : List ℕ) → set_cost search.width (drop 1 placed) + set_cost search.width left
    ≡ set_cost search.width (members placed left)
split_cost search placed left = sym (sum_by-append (adder_cost search.width) (drop 1 placed) left)

-- ---- a closed node
pub room_whole : (targets : List ℕ) (extra more : ℕ) (set placed left : List ℕ) → IsPermutation set (members placed left) → left ≡ []
    → HasRoom targets extra set more → HasRoom targets extra (members placed []) 0
room_whole targets extra more set placed left p e room =
    let moved = room_moved targets extra set (members placed left) more p room in
    let all = subst (λ xs. HasRoom targets extra (members placed xs) more) e moved in
    record { has_targets = all.has_targets; few = omega (arith, all.few); small = all.small }

pub least_now : (targets set moved : List ℕ) (least now : Option ℕ) → IsPermutation set moved → now ≡ least → IsLeastOf targets set least
    → IsLeastOf targets moved now
least_now targets set moved least now p e h = subst (IsLeastOf targets moved) (sym e) (least_moved targets set moved least p h)

pub least_whole : (targets set placed left : List ℕ) (least now : Option ℕ) → IsPermutation set (members placed left) → left ≡ []
    → now ≡ least → IsLeastOf targets set least → IsLeastOf targets (members placed []) now
least_whole targets set placed left least now p none e h =
    subst (λ xs. IsLeastOf targets (members placed xs) now) none (least_now targets set (members placed left) least now p e h)

pub within_moved : (set moved other : List ℕ) → IsPermutation set moved → Within set other → Within moved other
within_moved set moved other p w x c = w x (Contains-permutation moved set x (IsPermutation-sym set moved p) c)

pub length_moved : (set moved : List ℕ) (n more : ℕ) → IsPermutation set moved → n ≤ length set + more → n ≤ length moved + more
length_moved set moved n more p h = omega (arith, h, length_permutation set moved p)

-- no set of the piece has the members of such a node and no more
pub no_more : (piece : Piece) (placed left : List ℕ) (least : Option ℕ) (other : List ℕ) → IsPiece piece → IsNode placed left
    → IsStuck placed left → IsOpen piece left least → IsLeastOf piece.search.now.targets.items (members placed left) least
    → own_of piece other → Within (members placed left) other → length other ≤ length (members placed left) + 0 → ⊥
no_more piece placed left least other s n stuck open_node h own w few =
    ⊎_elim (λ (p : IsPermutation other (members placed left)). not_itself piece placed left least other n stuck open_node h own p)
    (λ (g : (length (members placed left) < length other)
    × (set_cost piece.search.now.width (members placed left) < set_cost piece.search.now.width other)). omega (arith, g.0, few))
    (grown piece.search.now.width (members placed left) other s.search.width.0 n.distinct w)

-- a number that is held is a member, where it is above 1
pub held_member : (placed left : List ℕ) (m : ℕ) → IsNode placed left → 1 < m → Contains placed m ⊎ Contains left m
    → Contains (members placed left) m
held_member placed left m n large (inl c) =
    ⊎_elim (λ (e : 1 ≡ m). absurd (omega (arith, e, large)))
    (λ (k : Contains (drop 1 placed) m). Contains-append_left (drop 1 placed) left m k) (placed_cases placed m n.starts c)
held_member placed left m n large (inr c) = Contains-append_right (drop 1 placed) left m c

pub free_member : (placed left : List ℕ) (m : ℕ) → IsNode placed left → (Contains placed m → ⊥) × (Contains left m → ⊥)
    → Contains (members placed left) m → ⊥
free_member placed left m n free c = ⊎_elim (λ (k : Contains (drop 1 placed) m). free.0 (placed_member placed m n.starts k))
    (λ (k : Contains left m). free.1 k) (Contains-append_cases (drop 1 placed) left m c)

-- what a search asks of members
pub is_member : (search : Search) (m : ℕ) → IsSearch search → (m % 2 ≡ 1) × (1 < m) × (m < search.limit) → IsMember m
is_member search m s h = (h.0, h.1, omega (arith, h.2, s.limit_is, limit_small search.targets.items s.targets))

-- the slice of what is placed after 1
pub rest_all : (placed : List ℕ) → take (length placed - 1) (drop 1 placed) ≡ drop 1 placed
rest_all [] = refl
rest_all (x ∷ xs) = take_all (length (x ∷ xs) - 1) xs (omega arith)
