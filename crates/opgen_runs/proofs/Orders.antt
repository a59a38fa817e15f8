-- A sound design has an order of evaluation: its drivers sorted by the numbers of what they drive.
use Rattle.std.proofs.Common.{◌≡◌, ℕ, zero, suc, ◌+◌, ◌<◌, ◌≤◌, List, [], ◌∷◌, get_or, Some, refl, ap, ◌∙◌, inl, inr, arith}
use Rattle.std.specs.Prelude.{Option, None, Contains, All, slice_get}
use Rattle.std.specs.List.Sorted.{IsPermutation, IsNonDecreasingBy}
use Rattle.std.proofs.lemmas.Bool.{cases_lt}
use Rattle.std.proofs.lemmas.List.Elements.{All-cons}
use Rattle.std.proofs.lemmas.List.Sorted.{IsPermutation-refl, IsPermutation-sym, IsPermutation-trans, IsPermutation-cons, IsPermutation-middle, All-permutation}
use Rattle.std.proofs.lemmas.Option.{slice_get_within, get_or_from_slice_get}
use Rattle.opgen_design.specs.declared.design.Design.{Design}
use Rattle.opgen_design.specs.declared.design.Driver.{Driver}
use Rattle.opgen_design.specs.Order.{IsOrderOf, waiting}
use Rattle.opgen_design.specs.declared.design.Target.{Target}
use Rattle.opgen_design.specs.declared.design.Target.TheVariants.{Signal as signal, Port as port_of}
use Rattle.opgen_design.specs.Sound.{target, Needs, IsOrdered}
use Rattle.opgen_design.proofs.SoundLaws.{at-contains}

-- numbers sorted by rank
module _ (rank : ℕ → ℕ) where
  abbrev Sorting : List ℕ → Type 0
  Sorting is = (order : List ℕ) × IsPermutation is order × IsNonDecreasingBy rank order

  ascending-cons : (i : ℕ) (is : List ℕ) → All (λ j. rank i ≤ rank j) is → IsNonDecreasingBy rank is → IsNonDecreasingBy rank (i ∷ is)
  ascending-cons i is least up zero zero d l m = omega arith
  ascending-cons i is least up zero (suc q) d l m = least q d (omega (arith, m))
  ascending-cons i is least up (suc p) zero d l m = absurd (omega (arith, l))
  ascending-cons i is least up (suc p) (suc q) d l m = up p q d (omega (arith, l)) (omega (arith, m))

  with-one : (i : ℕ) (is : List ℕ) → IsNonDecreasingBy rank is → Sorting (i ∷ is)
  with-one i [] up = (i ∷ [], IsPermutation-refl (i ∷ []), ascending-cons i [] (λ k d l. absurd (omega (arith, l))) up)
  with-one i (j ∷ is) up = elim (cases_lt (rank j) (rank i)) [
    | inl l ↦
        let more = with-one i is (λ p q d m n. up (suc p) (suc q) d (omega (arith, m)) (omega (arith, n))) in
        let least : All (λ k. rank j ≤ rank k) (i ∷ is) = All-cons (λ k. rank j ≤ rank k) i is (omega (arith, l))
        (λ k d m. up 0 (suc k) d (omega arith) (omega (arith, m))) in (
          j ∷ more.0,
          IsPermutation-trans (i ∷ j ∷ is) (j ∷ i ∷ is) (j ∷ more.0)
              (IsPermutation-sym (j ∷ i ∷ is) (i ∷ j ∷ is) (IsPermutation-middle (j ∷ []) i is))
              (IsPermutation-cons j (i ∷ is) more.0 more.1),
          ascending-cons j more.0 (All-permutation (λ k. rank j ≤ rank k) (i ∷ is) more.0 more.1 least) more.2,
        )
    | inr l ↦ (
      i ∷ j ∷ is,
      IsPermutation-refl (i ∷ j ∷ is),
      ascending-cons i (j ∷ is) (λ k d m. omega (arith, l, up 0 k d (omega arith) m)) up,
    )
  ]

  sorting : (is : List ℕ) → Sorting is
  sorting [] = ([], IsPermutation-refl [], λ p q d l m. absurd (omega (arith, m)))
  sorting (i ∷ is) =
      let rest = sorting is in
      let more = with-one i rest.0 rest.2 in
      (more.0, IsPermutation-trans (i ∷ is) (i ∷ rest.0) more.0 (IsPermutation-cons i is rest.0 rest.1) more.1, more.2)

module _ (d : Design) (o : IsOrdered d) where
  -- a number above those of the signals that drivers drive
  abbrev after : Target → ℕ
  after (signal s) = suc (o.0 s)
  after (port_of p) = 0

  abbrev above : List Driver → ℕ
  above [] = 0
  above (k ∷ ks) = after (target k) + above ks

  below-above : (ks : List Driver) (j s : ℕ) (m : Driver) → slice_get ks j ≡ Some m → target m ≡ signal s → o.0 s < above ks
  below-above [] j s m e t = absurd (cc)
  below-above (k ∷ ks) zero s m e t =
      let same : k ≡ m = cc in
      let n : after (target k) ≡ suc (o.0 s) = ap (λ x. after (target x)) same ∙ ap after t in
      omega (arith, n)
  below-above (k ∷ ks) (suc j) s m e t = omega (arith, below-above ks j s m e t)

  -- a driver ranks by the number of its signal, and a driver of a port comes after all those
  abbrev rank_of : Target → ℕ
  rank_of (signal s) = o.0 s
  rank_of (port_of p) = above d.drivers

  abbrev rank_option : Option Driver → ℕ
  rank_option None = 0
  rank_option (Some k) = rank_of (target k)

  abbrev rank : ℕ → ℕ
  rank i = rank_option (slice_get d.drivers i)

  rank-at : (order : List ℕ) (p i : ℕ) (k : Driver) → slice_get order p ≡ Some i → slice_get d.drivers i ≡ Some k → rank (get_or order p 0)
      ≡ rank_of (target k)
  rank-at order p i k a b = ap rank (get_or_from_slice_get order p i 0 a) ∙ ap rank_option b

  needed-below : (k m : Driver) (j s : ℕ) → Contains d.drivers k → slice_get d.drivers j ≡ Some m → target m ≡ signal s → Needs s k
      → (u : Target) → target k ≡ u → o.0 s < rank_of u
  needed-below k m j s c f t n (signal r) e = o.1 r s k c e n
  needed-below k m j s c f t n (port_of p) e = below-above d.drivers j s m f t

  pub has-order : (order : List ℕ) × IsOrderOf d order
  has-order =
      let sorted = sorting rank (waiting 0 d.drivers) in (
        sorted.0,
        record {
          each_once = sorted.1;
          needs_first = λ p q i j s k m a b e f t n. elim (cases_lt q p) [
            | inl l ↦ l
            | inr l ↦
                let up = sorted.2 p q 0 l (slice_get_within sorted.0 q j e) in
                let below = needed-below k m j s (at-contains d.drivers i k b) f t n (target k) refl in
                absurd (omega (arith, up, below, rank-at sorted.0 p i k a b, rank-at sorted.0 q j m e f, ap rank_of t))
          ];
        },
      )
