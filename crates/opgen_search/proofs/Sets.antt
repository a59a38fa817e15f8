-- A set within a larger one.
use Rattle.std.proofs.Common.{◌≡◌, ◌≢◌, ◌⊎◌, inl, inr, ⊎_elim, ℕ, ◌≤◌, ◌<◌, false, List, [], ◌∷◌, ◌++◌, length, length-append, Contains, IsPermutation, refl, sym, subst, ◌∙◌, arith}
use lib.Dec.{eqb}
use Rattle.std.specs.List.{IsDistinct, remove}
use Rattle.std.specs.List.Sorted.{IsStrictlyIncreasing, IsNonDecreasing}
use Rattle.std.proofs.lemmas.Bool.{cases_eq}
use Rattle.std.proofs.lemmas.Bool.Decides.{nat_tests}
use Rattle.std.proofs.lemmas.List.{append-nil}
use Rattle.std.proofs.lemmas.List.Sums.{sum_by-cons, sum_by-append}
use Rattle.std.proofs.lemmas.List.Elements.{All-from_recursion, recursion_from_All, All-contains, Contains-append_right}
use Rattle.std.proofs.lemmas.List.Sorted.{IsPermutation-refl, IsPermutation-sym, IsPermutation-trans, IsPermutation-cons, IsPermutation-remove, Contains-permutation, length_permutation, sum_by-IsPermutation}
use Rattle.std.proofs.lemmas.Map.Keys.{IsDistinct-head, IsDistinct-tail, IsDistinct-cons, IsDistinct-IsPermutation, IsStrictlyIncreasing-from_distinct}
use Rattle.opgen_graph.specs.SetCost.{set_cost, adder_cost}
use Rattle.opgen_graph.proofs.Members.{here, there, of_cons, of_nil, all_of}
use Rattle.opgen_graph.proofs.SignedSets.{Climbs, climbs, same_climbs}
use Rattle.opgen_search.specs.Members.{Within}

-- ---- lists in which no number stands twice
pub apart : (x : ℕ) (xs : List ℕ) → IsDistinct eqb (x ∷ xs) → Contains xs x → ⊥
apart x xs d c =
    let differs : eqb x x ≡ false =
    All-contains (λ y. eqb x y ≡ false) xs x (All-from_recursion (λ y. eqb x y ≡ false) xs (IsDistinct-head eqb x xs d)) c in
    let not : x ≢ x = grind (arith, nat_tests, differs) in not refl

pub distinct_cons : (x : ℕ) (xs : List ℕ) → (Contains xs x → ⊥) → IsDistinct eqb xs → IsDistinct eqb (x ∷ xs)
distinct_cons x xs out d =
    IsDistinct-cons eqb x xs (recursion_from_All (λ y. eqb x y ≡ false) xs
    (all_of (λ y. eqb x y ≡ false) xs (λ y c. let ne : x ≢ y = λ e. out (subst (Contains xs) (sym e) c) in
    grind (arith, nat_tests)))) d

flips : (x y : ℕ) → eqb x y ≡ eqb y x
flips x y = ⊎_elim (λ (e : x ≡ y). rw e refl) (λ (ne : x ≢ y). let a : eqb x y ≡ false = grind (arith, nat_tests) in
    let ne2 : y ≢ x = λ e. ne (sym e) in let b : eqb y x ≡ false = grind (arith, nat_tests) in a ∙ sym b) (cases_eq x y)

pub distinct_moved : (xs ys : List ℕ) → IsPermutation xs ys → IsDistinct eqb xs → IsDistinct eqb ys
distinct_moved xs ys p d = IsDistinct-IsPermutation eqb flips xs ys p d

pub distinct_climbs : (xs : List ℕ) → Climbs xs → IsDistinct eqb xs
unfolding IsDistinct
distinct_climbs [] h = tt
distinct_climbs (x ∷ xs) h = distinct_cons x xs (λ c. omega (arith, h.0 x c)) (distinct_climbs xs h.1)

-- ---- what a larger set has besides
taken : (x : ℕ) (ys : List ℕ) → Contains ys x → (rest : List ℕ) × IsPermutation ys (x ∷ rest)
taken x ys c = (remove ys c.0, IsPermutation-remove ys c.0 x c.1 (sym c.2))

pub difference : (xs ys : List ℕ) → IsDistinct eqb xs → Within xs ys → (rest : List ℕ) × IsPermutation ys (xs ++ rest)
difference [] ys d w = (ys, IsPermutation-refl ys)
difference (x ∷ xs) ys d w =
    let (zs, p) = taken x ys (w x (here x xs)) in
    let inside : Within xs zs = λ y c. ⊎_elim (λ (e : x ≡ y). absurd (apart x xs d (subst (Contains xs) (sym e) c)))
    (λ (k : Contains zs y). k) (of_cons x y zs (Contains-permutation ys (x ∷ zs) y p (w y (there x y xs c)))) in
    let (rest, q) = difference xs zs (IsDistinct-tail eqb x xs d) inside in
    (rest, IsPermutation-trans _ _ _ p (IsPermutation-cons x _ _ q))

-- a larger list is the same set, or it is longer and costs more
abbrev pub IsGrown : (width : ℕ) → List ℕ → List ℕ → Type 0
IsGrown width xs ys = IsPermutation ys xs ⊎ ((length xs < length ys) × (set_cost width xs < set_cost width ys))

pub grown : (width : ℕ) (xs ys : List ℕ) → 1 ≤ width → IsDistinct eqb xs → Within xs ys → IsGrown width xs ys
grown width xs ys one d w = more (difference xs ys d w)
  where
    more : (rest : List ℕ) × IsPermutation ys (xs ++ rest) → IsGrown width xs ys
    more ([], p) = inl (rw append-nil at p)
    more (r ∷ rs, p) =
        let long = length_permutation _ _ p in
        let dear = sum_by-IsPermutation (adder_cost width) _ _ p in
        inr (
          omega (arith, long, length-append xs (r ∷ rs)),
          omega (arith, dear, one, sum_by-append (adder_cost width) xs (r ∷ rs), sum_by-cons (adder_cost width) r rs),
        )

pub distinct_append : (xs ys : List ℕ) (x : ℕ) → IsDistinct eqb (xs ++ ys) → Contains xs x → Contains ys x → ⊥
distinct_append [] ys x d cx cy = of_nil x cx
distinct_append (z ∷ xs) ys x d cx cy =
    ⊎_elim (λ (e : z ≡ x). apart z (xs ++ ys) d (Contains-append_right xs ys z (subst (Contains ys) (sym e) cy)))
    (λ (k : Contains xs x). distinct_append xs ys x (IsDistinct-tail eqb z (xs ++ ys) d) k cy) (of_cons z x xs cx)

-- a larger list that is not the same set has a member besides
pub one_more : (xs ys : List ℕ) → IsDistinct eqb xs → IsDistinct eqb ys → Within xs ys → (IsPermutation ys xs → ⊥)
    → (x : ℕ) × Contains ys x × (Contains xs x → ⊥)
one_more xs ys dx dy w non = besides (difference xs ys dx w)
  where
    besides : (rest : List ℕ) × IsPermutation ys (xs ++ rest) → (x : ℕ) × Contains ys x × (Contains xs x → ⊥)
    besides ([], p) = absurd (non (rw append-nil at p))
    besides (r ∷ rs, p) = (
      r,
      Contains-permutation (xs ++ r ∷ rs) ys r (IsPermutation-sym ys (xs ++ r ∷ rs) p) (Contains-append_right xs (r ∷ rs) r (here r rs)),
      λ c. distinct_append xs (r ∷ rs) r (distinct_moved ys (xs ++ r ∷ rs) p dy) c (here r rs),
    )

-- ---- increasing lists
pub same_set : (xs ys : List ℕ) → IsStrictlyIncreasing xs → IsStrictlyIncreasing ys → Within xs ys → Within ys xs → xs ≡ ys
same_set xs ys hx hy to from = same_climbs xs ys (climbs xs hx) (climbs ys hy) to from

pub within_permutation : (xs ys : List ℕ) → IsPermutation xs ys → Within xs ys
within_permutation xs ys p x c = Contains-permutation xs ys x p c

pub increasing_sorted : (xs ys : List ℕ) → IsDistinct eqb xs → IsPermutation xs ys → IsNonDecreasing ys → IsStrictlyIncreasing ys
increasing_sorted xs ys d p up = IsStrictlyIncreasing-from_distinct ys up (distinct_moved xs ys p d)
