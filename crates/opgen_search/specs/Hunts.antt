-- The invariants of the search: what holds of a search, of a piece, and of the best set so far.
use Rattle.std.specs.Prelude.{◌≡◌, ◌⊎◌, ℕ, ◌+◌, ◌%◌, ◌^◌, ◌≤◌, ◌<◌, min, List, length, All, Contains, Option, Some, None, IfSome, IsSomeAnd}
use Rattle.opgen_bound.specs.Views.{most}
use Rattle.opgen_bound.specs.Passes.{view, IsPassOf}
use Rattle.opgen_graph.specs.Reach.{Among}
use Rattle.opgen_graph.specs.SetCost.{set_cost}
use Rattle.opgen_graph.specs.SignedDigits.{IsDigitSet}
use Rattle.opgen_search.specs.declared.hunt.Search.{Search}
use Rattle.opgen_search.specs.declared.hunt.Piece.{Piece}
use Rattle.opgen_search.specs.declared.hunt.Hunt.{Hunt}
use Rattle.opgen_search.specs.declared.node.Node.{Node}
use Rattle.opgen_search.specs.Space.{AreTargets, limit}
use Rattle.opgen_search.specs.Members.{Within}
use Rattle.opgen_search.specs.Nodes.{members_of}
use Rattle.opgen_search.specs.Parts.{number, IsLeastFurther, IsOwn, Part}
use Rattle.opgen_search.specs.Covered.{best_of, IsDone}

-- what a member may be
abbrev pub IsChoice : (limit : ℕ) → ℕ → Type 0
IsChoice limit x = (x % 2 ≡ 1) × (1 < x) × (x < limit)

pub record AreOdds (limit : ℕ) (odds : List ℕ) : Type 0 where
  pub each : All (IsChoice limit) odds
  pub every : (x : ℕ) → IsChoice limit x → Contains odds x

pub record IsSearch (search : Search) : Type 0 where
  pub targets : AreTargets search.targets.items
  pub count : length search.targets.items + search.extra < 2 ^ 20
  pub width : (1 ≤ search.width) × (search.width < 2 ^ 31)
  pub limit_is : search.limit ≡ limit search.targets.items
  pub pieces : (0 < search.pieces) × (search.pieces ≤ 32)
  pub digits : IsDigitSet search.targets.items search.digits.items
  pub digit_count : length search.digits.items < 2 ^ 31
  pub odds : AreOdds search.limit search.odds.items

-- the members that a piece may choose where no less further member stands
pub record AreOwnOdds (search : Search) (piece : ℕ) (own : List ℕ) : Type 0 where
  pub each : All (IsChoice search.limit) own
  pub every : (x : ℕ) → IsChoice search.limit x → number search.targets.items x % search.pieces ≡ piece → Contains own x

pub record IsPiece (piece : Piece) : Type 0 where
  pub search : IsSearch piece.search.now
  pub number : piece.number < piece.search.now.pieces
  pub own : AreOwnOdds piece.search.now piece.number piece.own.items

abbrev pub own_of : Piece → List ℕ → Type 0
own_of piece = IsOwn piece.search.now.targets.items piece.search.now.extra piece.search.now.pieces piece.number

abbrev pub part_of : Piece → List ℕ → Type 0
part_of piece = Part piece.search.now.targets.items piece.search.now.extra piece.search.now.pieces piece.number

-- the best set so far is one of the part, `known` is what the pass has seen, and what was published is no less than the best set costs
pub record IsHunt (piece : Piece) (hunt : Hunt) : Type 0 where
  pub bound : IsPassOf piece.bound.now hunt.pass
  pub seen : hunt.known ≡ (view hunt.pass).seen
  pub member : IfSome (best_of hunt.best) (part_of piece)
  pub count : IfSome (best_of hunt.best) (λ set. length set < 2 ^ 31)
  pub published : (most ≤ (view hunt.pass).published)
      ⊎ IsSomeAnd (best_of hunt.best) (λ set. set_cost piece.search.now.width set ≤ (view hunt.pass).published)

-- a set that need not be tried any more
abbrev pub IsSettled : Piece → Hunt → List ℕ → Type 0
IsSettled piece hunt set = IsDone piece.search.now.width (best_of hunt.best) hunt.known set

-- a later state: what was settled is settled, and the pass has the same share
pub record IsLater (piece : Piece) (before after : Hunt) : Type 0 where
  pub settled : (set : List ℕ) → IsSettled piece before set → IsSettled piece after set
  pub share : (view after.pass).share ≡ (view before.pass).share
  pub start : (view after.pass).start ≡ (view before.pass).start

-- each set of the piece that has these members and at most so many more is settled
abbrev pub IsCovered : Piece → Hunt → (set : List ℕ) → (more : ℕ) → Type 0
IsCovered piece hunt set more = (other : List ℕ) → own_of piece other → Within set other → length other ≤ length set + more
    → IsSettled piece hunt other

-- each set of the piece that has these members is settled
abbrev pub AreSettled : Piece → Hunt → (set : List ℕ) → Type 0
AreSettled piece hunt set = (other : List ℕ) → own_of piece other → Within set other → IsSettled piece hunt other

-- each that has the members of a node and at most so many more, one of which is this member, made of what is placed, is settled
abbrev pub IsTried : Piece → Hunt → Node → (more member : ℕ) → Type 0
IsTried piece hunt node more member =
    (other : List ℕ) → own_of piece other → Within (members_of node) other → length other ≤ length (members_of node) + more
    → Contains other member → (Contains (members_of node) member → ⊥) → Among node.placed.items member
    → IsSettled piece hunt other

-- the least further member so far, or none
abbrev pub IsLeastOf : (targets set : List ℕ) → (least : Option ℕ) → Type 0
IsLeastOf targets set None = Within set targets
IsLeastOf targets set (Some m) = IsLeastFurther targets set m

abbrev pub least_with : (least : Option ℕ) → ℕ → ℕ
least_with None m = m
least_with (Some least) m = min least m

-- a set with this least further member goes to the piece
abbrev pub IsTaken : (targets : List ℕ) (pieces piece : ℕ) → (least : Option ℕ) → Type 0
IsTaken targets pieces piece None = piece ≡ 0
IsTaken targets pieces piece (Some m) = number targets m % pieces ≡ piece

abbrev pub takes : Piece → (least : Option ℕ) → Type 0
takes piece = IsTaken piece.search.now.targets.items piece.search.now.pieces piece.number

-- the numbers that may be a further member are among these, but for those that, as the last one, give a set of another piece
abbrev pub HaveChoices : Piece → (least : Option ℕ) → (more : ℕ) → List ℕ → Type 0
HaveChoices piece least more found =
    (x : ℕ) → IsChoice piece.search.now.limit x → (more ≤ 1 → takes piece (Some (least_with least x))) → Contains found x
