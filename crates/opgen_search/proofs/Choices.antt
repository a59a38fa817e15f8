-- The numbers that a piece may choose.
use Rattle.std.proofs.Common.{◌≡◌, ⊎_elim, ℕ, ◌+◌, ◌*◌, ◌/◌, ◌%◌, ◌≤◌, ◌<◌, min, List, [], ◌∷◌, ◌++◌, length, take, get_or, Bool, true, false, Option, Some, None, All, Contains, refl, sym, subst, arith}
use mathlib.Core.Bool.{not}
use Rattle.std.proofs.lemmas.Bool.{cases_lt}
use Rattle.std.proofs.lemmas.List.{take_all, take_more}
use Rattle.std.proofs.lemmas.List.Elements.{All-nil, All-append, All-cons, All-contains, Contains-get_or, Contains-append_left, Contains-append_right, Contains-append_cases}
use Rattle.opgen_graph.proofs.Members.{here, of_nil, of_one}
use Rattle.opgen_graph.proofs.OddParts.{refuted}
use Rattle.opgen_search.specs.declared.hunt.Search.{Search}
use Rattle.opgen_search.specs.declared.hunt.Piece.{Piece}
use Rattle.opgen_search.specs.Parts.{number}
use Rattle.opgen_search.specs.Hunts.{IsChoice, AreOdds, AreOwnOdds, IsPiece, least_with, takes}

-- ---- all of them
abbrev pub HasOdds : (limit half : ℕ) → List ℕ → Type 0
HasOdds limit half odds = All (IsChoice limit) odds × ((x : ℕ) → IsChoice limit x → x < 2 * half + 1 → Contains odds x)

pub no_odds : (limit : ℕ) → HasOdds limit 1 []
no_odds limit = (All-nil (IsChoice limit), λ x c lt. absurd (omega (arith, c.0, c.1, lt)))

snoc : (P : ℕ → Type 0) (xs : List ℕ) (x : ℕ) → All P xs → P x → All P (xs ++ x ∷ [])
snoc P xs x all p = All-append P xs (x ∷ []) all (All-cons P x [] p (All-nil P))

last : (xs : List ℕ) (x : ℕ) → Contains (xs ++ x ∷ []) x
last xs x = Contains-append_right xs (x ∷ []) x (here x [])

pub more_odds : (limit half m : ℕ) (odds : List ℕ) → 1 ≤ half → half < limit / 2 → m ≡ 2 * half + 1 → HasOdds limit half odds
    → HasOdds limit (half + 1) (odds ++ m ∷ [])
more_odds limit half m odds low high e h = (
  snoc (IsChoice limit) odds m h.0 (omega (arith, e), omega (arith, e, low), omega (arith, e, high)),
  λ x c lt.
      ⊎_elim (λ (k : x < 2 * half + 1). Contains-append_left odds (m ∷ []) x (h.1 x c k))
      (λ (ge : 2 * half + 1 ≤ x).
      let same : m ≡ x = omega (arith, e, c.0, lt, ge) in
      subst (Contains (odds ++ m ∷ [])) same (last odds m))
      (cases_lt x (2 * half + 1)),
)

pub all_odds : (limit half : ℕ) (odds : List ℕ) → limit / 2 ≤ half → HasOdds limit half odds → AreOdds limit odds
all_odds limit half odds le h = record { each = h.0; every = λ x c. h.1 x c (omega (arith, c.0, c.2, le)) }

-- ---- those of a piece
abbrev pub HasOwn : Search → (piece : ℕ) → (done own : List ℕ) → Type 0
HasOwn search piece done own = All (IsChoice search.limit) own × ((x : ℕ) → Contains done x
    → number search.targets.items x % search.pieces ≡ piece → Contains own x)

pub no_own : (search : Search) (piece : ℕ) → HasOwn search piece [] []
no_own search piece = (All-nil (IsChoice search.limit), λ x c e. absurd (of_nil x c))

pub own_more : (search : Search) (piece : ℕ) (odds own : List ℕ) (i : ℕ) → i < length odds → All (IsChoice search.limit) odds
    → HasOwn search piece (take i odds) own → HasOwn search piece (take (i + 1) odds) (own ++ get_or odds i 0 ∷ [])
own_more search piece odds own i lt all h = (
  snoc (IsChoice search.limit) own (get_or odds i 0) h.0
      (All-contains (IsChoice search.limit) odds (get_or odds i 0) all (Contains-get_or odds i 0 lt)),
  λ x c e.
      ⊎_elim (λ (k : Contains (take i odds) x). Contains-append_left own (get_or odds i 0 ∷ []) x (h.1 x k e))
      (λ (k : Contains (get_or odds i 0 ∷ []) x). Contains-append_right own (get_or odds i 0 ∷ []) x k)
      (Contains-append_cases (take i odds) (get_or odds i 0 ∷ []) x (subst (λ xs. Contains xs x) (take_more odds i 0 lt) c)),
)

pub own_same : (search : Search) (piece : ℕ) (odds own : List ℕ) (i : ℕ) → i < length odds
    → (number search.targets.items (get_or odds i 0) % search.pieces ≡ piece → ⊥) → HasOwn search piece (take i odds) own
    → HasOwn search piece (take (i + 1) odds) own
own_same search piece odds own i lt non h = (
  h.0,
  λ x c e.
      ⊎_elim (λ (k : Contains (take i odds) x). h.1 x k e)
      (λ (k : Contains (get_or odds i 0 ∷ []) x). absurd
      (non (subst (λ y. number search.targets.items y % search.pieces ≡ piece) (sym (of_one (get_or odds i 0) x k)) e)))
      (Contains-append_cases (take i odds) (get_or odds i 0 ∷ []) x (subst (λ xs. Contains xs x) (take_more odds i 0 lt) c)),
)

pub all_own : (search : Search) (piece : ℕ) (own : List ℕ) (i : ℕ) → AreOdds search.limit search.odds.items
    → length search.odds.items ≤ i → HasOwn search piece (take i search.odds.items) own → AreOwnOdds search piece own
all_own search piece own i odds le h =
    record { each = h.0; every = λ x c e. h.1 x (subst (λ xs. Contains xs x) (sym (take_all i search.odds.items le)) (odds.every x c)) e }

-- ---- the last further member
-- where the piece does not take the least further member so far, a last one that makes a set of the piece is less, and one of its own
pub own_last : (piece : Piece) (least : Option ℕ) (x : ℕ) → IsPiece piece → ((m : ℕ) → least ≡ Some m → takes piece (Some m) → ⊥)
    → IsChoice piece.search.now.limit x → takes piece (Some (least_with least x)) → Contains piece.own.items x
own_last piece None x s non c t = s.own.every x c t
own_last piece (Some m) x s non c t =
    ⊎_elim
    (λ (lt : x < m).
    let e : min m x ≡ x = omega (arith, lt) in
    s.own.every x c (subst (λ y. takes piece (Some y)) e t))
    (λ (le : m ≤ x).
    let e : min m x ≡ m = omega (arith, le) in
    absurd (non m refl (subst (λ y. takes piece (Some y)) e t)))
    (cases_lt x m)

pub not_both : (b : Bool) → not b ≡ true → b ≡ true → ⊥
not_both true e f = refuted e
not_both false e f = refuted f
