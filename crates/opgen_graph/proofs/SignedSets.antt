-- The set of the signed digits' partial sums.
use Rattle.std.proofs.Common.{◌≡◌, ◌⊎◌, ◌↔◌, inl, inr, ⊎_elim, ℕ, zero, suc, ◌+◌, ◌%◌, ◌^◌, ◌≤◌, ◌<◌, List, [], ◌∷◌, ◌++◌, length, take, get_or, All, Contains, ℤ, pos, refl, sym, ap, subst, ◌∙◌, arith, add-one}
use Rattle.std.specs.Prelude.{slice_index}
use Rattle.std.specs.List.{dedup}
use Rattle.std.specs.List.Sorted.{IsStrictlyIncreasing, IsPermutation, IsSorted}
use Rattle.std.specs.Ordering.{nat_cmp}
use lib.Dec.{eqb}
use Rattle.std.proofs.lemmas.Map.Keys.{IsStrictlyIncreasing-dedup}
use Rattle.std.proofs.lemmas.List.{take_more, take_all}
use Rattle.std.proofs.lemmas.List.Kept.{Contains-from_dedup, Contains-dedup_nat}
use Rattle.std.proofs.lemmas.List.Elements.{All-contains, Contains-get_or, Contains-append_left, Contains-append_right, Contains-append_cases}
use Rattle.std.proofs.lemmas.List.Sorted.{IsPermutation-refl, IsPermutation-sym, Contains-permutation}
use Rattle.opgen_csd.specs.Digits.{IsCanonical, value_of}
use Rattle.opgen_csd.specs.Partials.{partials}
use Rattle.opgen_csd.specs.Laws.{IsPartialSum}
use Rattle.opgen_csd.proofs.Canonical.{unique}
use Rattle.opgen_csd.proofs.Existence.{some_form}
use Rattle.opgen_csd.proofs.StepUp.{partials_step_up, partials_end}
use Rattle.opgen_graph.specs.declared.forms.Form.TheVariants.{A, B}
use Rattle.opgen_graph.specs.Adders.{Comb}
use Rattle.opgen_graph.specs.Reach.{IsBuiltFrom, IsMember, Reaches}
use Rattle.opgen_graph.specs.SignedDigits.{IsTarget, IsPartialOf, IsDigitSet}
use Rattle.opgen_graph.proofs.Members.{here, there, of_cons, of_nil, of_one, Within, all_of}
use Rattle.opgen_graph.specs.Targets.{AreTargetsOf}

-- ---- a number one step above a smaller one
comb_of : (i y x : ℕ) → 1 ≤ i → (2 ^ i + y ≡ x) ⊎ (2 ^ i ≡ x + y) → Comb 1 y x
comb_of i y x le (inl e) = (A, i, le, omega (arith, e))
comb_of i y x le (inr e) = (B, i, le, omega (arith, e))

-- each number is below those after it
abbrev pub Climbs : List ℕ → Type 0
Climbs [] = Unit {0}
Climbs (x ∷ xs) = ((y : ℕ) → Contains xs y → x < y) × Climbs xs

suc_climbs : (xs : List ℕ) → ((k : ℕ) → suc k < length xs → get_or xs k 0 < get_or xs (suc k) 0) → Climbs xs
suc_climbs [] h = tt
suc_climbs (x ∷ []) h = (λ y c. absurd (of_nil y c), tt)
suc_climbs (x ∷ y ∷ ys) h =
    let rest = suc_climbs (y ∷ ys) (λ k lt. h (suc k) (omega (arith, lt))) in
    let low : x < y = h zero (omega arith) in
    (λ z c. ⊎_elim (λ (e : y ≡ z). omega (arith, e, low)) (λ (k : Contains ys z). omega (arith, low, rest.0 z k)) (of_cons y z ys c), rest)

pub climbs : (xs : List ℕ) → IsStrictlyIncreasing xs → Climbs xs
climbs xs h = suc_climbs xs (λ k lt. subst (λ n. get_or xs k 0 < get_or xs n 0) (add-one k) (h k (omega (arith, lt))))

pub climbs_increasing : (xs : List ℕ) → Climbs xs → IsStrictlyIncreasing xs
climbs_increasing [] h k lt = absurd (omega (arith, lt))
climbs_increasing (x ∷ []) h k lt = absurd (omega (arith, lt))
climbs_increasing (x ∷ y ∷ ys) h zero lt = h.0 y (here y ys)
climbs_increasing (x ∷ y ∷ ys) h (suc k) lt =
    let next : suc (k + 1) ≡ suc k + 1 = omega arith in
    subst (λ n. slice_index (y ∷ ys) k < slice_index (x ∷ y ∷ ys) n) next (climbs_increasing (y ∷ ys) h.1 k (omega (arith, lt)))

-- lists that climb and have the same members are the same
pub same_climbs : (xs ys : List ℕ) → Climbs xs → Climbs ys → Within xs ys → Within ys xs → xs ≡ ys
same_climbs [] [] hx hy to from = refl
same_climbs [] (y ∷ ys) hx hy to from = absurd (of_nil y (from y (here y ys)))
same_climbs (x ∷ xs) [] hx hy to from = absurd (of_nil x (to x (here x xs)))
same_climbs (x ∷ xs) (y ∷ ys) hx hy to from =
    let low : y ≤ x = ⊎_elim (λ (e : y ≡ x). omega (arith, e)) (λ (k : Contains ys x). omega (arith, hy.0 x k))
    (of_cons y x ys (to x (here x xs))) in
    let high : x ≤ y = ⊎_elim (λ (e : x ≡ y). omega (arith, e)) (λ (k : Contains xs y). omega (arith, hx.0 y k))
    (of_cons x y xs (from y (here y ys))) in
    let e : x ≡ y = omega (arith, low, high) in
    let to_tail : Within xs ys = λ z c. ⊎_elim (λ (s : y ≡ z). absurd (omega (arith, hx.0 z c, s, e))) (λ (k : Contains ys z). k)
    (of_cons y z ys (to z (there x z xs c))) in
    let from_tail : Within ys xs = λ z c. ⊎_elim (λ (s : x ≡ z). absurd (omega (arith, hy.0 z c, s, e))) (λ (k : Contains xs z). k)
    (of_cons x z xs (from z (there y z ys c))) in
    ap (λ zs. x ∷ zs) (same_climbs xs ys hx.1 hy.1 to_tail from_tail) ∙ ap (λ z. z ∷ ys) e

built_up : (placed xs : List ℕ) → Contains placed 1 → Climbs xs
    → ((x : ℕ) → Contains xs x → (y : ℕ) × (y < x) × (Contains placed y ⊎ Contains xs y) × Comb 1 y x) → IsBuiltFrom placed xs
built_up placed [] one h each = tt
built_up placed (f ∷ fs) one h each =
    let (y, lt, from, comb) = each f (here f fs) in
    let y_placed : Contains placed y =
    ⊎_elim (λ (k : Contains placed y). k) (λ (k : Contains (f ∷ fs) y). ⊎_elim (λ (e : f ≡ y). absurd (omega (arith, e, lt)))
    (λ (m : Contains fs y). absurd (omega (arith, h.0 y m, lt))) (of_cons f y fs k)) from in
    let next = λ (x : ℕ) (c : Contains fs x). later x (each x (there f x fs c)) in
    ((1, y, one, y_placed, comb), built_up (placed ++ f ∷ []) fs (Contains-append_left placed (f ∷ []) 1 one) h.1 next)
  where
    later : (x : ℕ) → (y : ℕ) × (y < x) × (Contains placed y ⊎ Contains (f ∷ fs) y) × Comb 1 y x
        → (y : ℕ) × (y < x) × (Contains (placed ++ f ∷ []) y ⊎ Contains fs y) × Comb 1 y x
    later x (y, lt, from, comb) =
        let moved =
        λ (k : Contains (f ∷ fs) y). ⊎_elim
        (λ (e : f ≡ y). inl (Contains-append_right placed (f ∷ []) y (subst (Contains (f ∷ [])) e (here f []))))
        (λ (m : Contains fs y). inr m) (of_cons f y fs k) in
        (y, lt, ⊎_elim (λ (k : Contains placed y). inl (Contains-append_left placed (f ∷ []) y k)) moved from, comb)

-- ---- the laws
sum_of : (t x : ℕ) → IsTarget t → (p : IsPartialOf t x) → IsPartialSum t (partials p.0) x
sum_of t x ht (ds, h, v, c) = partials_step_up ds t h v ht.0 x c

pub digit_sets_reach : (targets set : List ℕ) → All IsTarget targets → IsDigitSet targets set → Reaches targets set
digit_sets_reach targets set ht d =
    let member = λ (x : ℕ) (c : Contains set x). from x ((d.members x).0 c) in
    record {
      adders = record {
        increasing = d.increasing;
        members = all_of IsMember set (λ x c. let m = member x c in
            (m.0, m.1, omega (arith, m.2)));
      };
      has_targets = λ t c. let m = All-contains IsTarget targets t ht c in (d.members t).1 (t, c, own t m);
      reachable =
          (set, IsPermutation-refl set, built_up (1 ∷ []) set (here 1 []) (climbs set d.increasing) (λ x c. stands x ((d.members x).0 c)));
    }
  where
    from : (x : ℕ) → (t : ℕ) × Contains targets t × IsPartialOf t x → (x % 2 ≡ 1) × (1 < x) × (x ≤ 2047)
    from x (t, c, p) = let m = All-contains IsTarget targets t ht c in let s = sum_of t x m p in (s.odd, s.large, omega (arith, s.most, m))

    own : (t : ℕ) → IsTarget t → IsPartialOf t t
    own t m = let (ds, h, v) = some_form (pos t) in (ds, h, v, partials_end ds t h v m.0 m.1)

    stands : (x : ℕ) → (t : ℕ) × Contains targets t × IsPartialOf t x → (y : ℕ) × (y < x) × (Contains (1 ∷ []) y ⊎ Contains set y)
        × Comb 1 y x
    stands x (t, c, (ds, h, v, k)) =
        let m = All-contains IsTarget targets t ht c in
        let s = sum_of t x m (ds, h, v, k) in
        let (i, y, le, lt, below, power) = s.step in (
          y,
          lt,
          ⊎_elim (λ (e : y ≡ 1). inl (subst (Contains (1 ∷ [])) (sym e) (here 1 [])))
              (λ (j : Contains (partials ds) y). inr ((d.members y).1 (t, c, (ds, h, v, j)))) below,
          comb_of i y x le power,
        )

-- ---- the loops of `csd_set`
pub unique_partial : (t x : ℕ) (ds : List ℤ) → IsCanonical ds → value_of ds ≡ pos t → IsPartialOf t x → Contains (partials ds) x
unique_partial t x ds h v (es, k, w, c) = subst (λ xs. Contains (partials xs) x) (unique es ds k h (w ∙ sym v)) c

pub partials_small : (t : ℕ) (ds : List ℤ) → IsTarget t → IsCanonical ds → value_of ds ≡ pos t → (k : ℕ) → k < length (partials ds)
    → get_or (partials ds) k 0 ≤ 2047
partials_small t ds ht h v k lt = let s = partials_step_up ds t h v ht.0 (get_or (partials ds) k 0)
    (Contains-get_or (partials ds) k 0 lt) in omega (arith, s.most, ht)

pub appended : (t : ℕ) (ds : List ℤ) (old new : List ℕ) → IsCanonical ds → value_of ds ≡ pos t → new ≡ old ++ partials ds → (x : ℕ)
    → Contains new x ↔ (Contains old x ⊎ IsPartialOf t x)
appended t ds old new h v e x = (
  λ c. ⊎_elim (λ (k : Contains old x). inl k) (λ (k : Contains (partials ds) x). inr (ds, h, v, k))
      (Contains-append_cases old (partials ds) x (subst (λ xs. Contains xs x) e c)),
  λ o. subst (λ xs. Contains xs x) (sym e) (⊎_elim (λ (k : Contains old x). Contains-append_left old (partials ds) x k)
      (λ (p : IsPartialOf t x). Contains-append_right old (partials ds) x (unique_partial t x ds h v p)) o),
)

abbrev pub Covers : List ℕ → List ℕ → Type 0
Covers set targets = (x : ℕ) → Contains set x ↔ ((t : ℕ) × Contains targets t × IsPartialOf t x)

pub covers_more : (old new targets : List ℕ) (i : ℕ) → i < length targets → Covers old (take i targets)
    → ((x : ℕ) → Contains new x ↔ (Contains old x ⊎ IsPartialOf (get_or targets i 0) x)) → Covers new (take (i + 1) targets)
covers_more old new targets i lt before more x = rw (take_more targets i 0 lt) (
  λ c. ⊎_elim (λ (k : Contains old x). let (t, m, p) = (before x).0 k in
      (t, Contains-append_left (take i targets) (get_or targets i 0 ∷ []) t m, p))
      (λ (p : IsPartialOf (get_or targets i 0) x). (
        get_or targets i 0,
        Contains-append_right (take i targets) (get_or targets i 0 ∷ []) (get_or targets i 0) (here (get_or targets i 0) []),
        p,
      ))
      ((more x).0 c),
  λ o. (more x).1 (known o),
)
  where
    known : (t : ℕ) × Contains (take i targets ++ get_or targets i 0 ∷ []) t × IsPartialOf t x → Contains old x
        ⊎ IsPartialOf (get_or targets i 0) x
    known (t, m, p) = ⊎_elim (λ (k : Contains (take i targets) t). inl ((before x).1 (t, k, p)))
        (λ (k : Contains (get_or targets i 0 ∷ []) t). inr (subst (λ n. IsPartialOf n x) (sym (of_one (get_or targets i 0) t k)) p))
        (Contains-append_cases (take i targets) (get_or targets i 0 ∷ []) t m)

pub digit_set : (targets set sorted : List ℕ) (n : ℕ) → length targets ≤ n → Covers set (take n targets) → IsPermutation set sorted
    → IsSorted nat_cmp sorted → IsDigitSet targets (dedup eqb sorted)
digit_set targets set sorted n le covers perm up = record {
  increasing = IsStrictlyIncreasing-dedup sorted up;
  members = λ x.
      let known = rw (take_all n targets le) at (covers x) in (
        λ c. known.0 (Contains-permutation sorted set x (IsPermutation-sym set sorted perm) (Contains-from_dedup eqb sorted x c)),
        λ o. Contains-dedup_nat sorted x (Contains-permutation set sorted x perm (known.1 o)),
      );
}

-- the numbers that a graph has to make are one list
pub one_targets : (constants : List ℤ) (xs ys : List ℕ) → AreTargetsOf constants xs → AreTargetsOf constants ys → xs ≡ ys
one_targets constants xs ys a b =
    same_climbs xs ys (climbs xs a.increasing) (climbs ys b.increasing) (λ x c. (b.members x).1 ((a.members x).0 c))
    (λ x c. (a.members x).1 ((b.members x).0 c))
