-- Where the goal is ⊥, a rank that has a property may be taken as the least that has it, if all ranks are of one length.
use Rattle.std.proofs.Common.{◌≡◌, inl, inr, ℕ, zero, suc, ◌<◌, List, [], ◌∷◌, length, refl, sym, subst, arith}
use Rattle.std.specs.declared.cmp.Ordering.TheVariants.{Less, Equal, Greater}
use Rattle.std.specs.Ordering.{ordering_then, nat_cmp}
use Rattle.std.specs.Cmp.{nat_cmp_is}
use Rattle.std.specs.Cmp.Lexicographic.{slice_cmp}
use Rattle.std.proofs.lemmas.Bool.{cases_order}
use Rattle.opgen_num.proofs.Orders.{least}
use Rattle.opgen_shared.specs.Rule.{IsRankedBefore}

-- ---- ranks
none_before : (r : List ℕ) → IsRankedBefore r [] → ⊥
none_before [] e = let no : Equal ≡ Less = e in cc
none_before (x ∷ xs) e = let no : Greater ≡ Less = e in cc

tails : (x : ℕ) (r s : List ℕ) → IsRankedBefore (x ∷ r) (x ∷ s) → IsRankedBefore r s
tails x r s h =
    let same : nat_cmp x x ≡ Equal = sym (nat_cmp_is x x Equal refl) in
    subst (λ o. ordering_then o (slice_cmp nat_cmp r s) ≡ Less) same h

heads : (x y : ℕ) (r s : List ℕ) → y < x → IsRankedBefore (x ∷ r) (y ∷ s) → ⊥
heads x y r s lt h =
    let more : nat_cmp x y ≡ Greater = sym (nat_cmp_is x y Greater lt) in
    let both : Greater ≡ Less = subst (λ o. ordering_then o (slice_cmp nat_cmp r s) ≡ Less) more h in
    cc

module _ (S : List ℕ → Type 0) (none : S [] → ⊥) (x : ℕ) (lower : (k : ℕ) → k < x → (ks : List ℕ) × S (k ∷ ks) → ⊥) (m : List ℕ)
    (first : (ks : List ℕ) → S (x ∷ ks) → IsRankedBefore ks m → ⊥) where
  no_less : (s : List ℕ) → S s → IsRankedBefore s (x ∷ m) → ⊥
  no_less [] is less = none is
  no_less (k ∷ ks) is less = elim (cases_order k x) [
    | inl e ↦ first ks (subst (λ n. S (n ∷ ks)) e is) (tails x ks m (subst (λ n. IsRankedBefore (n ∷ ks) (x ∷ m)) e less))
    | inr o ↦ elim o [
      | inl lt ↦ lower k lt (ks, is)
      | inr gt ↦ heads k x ks m gt less
    ]
  ]

pub least_rank : (size : ℕ) (S : List ℕ → Type 0) → ((s : List ℕ) → S s → length s ≡ size) → (s : List ℕ) → S s
    → ((m : List ℕ) → S m → ((t : List ℕ) → S t → IsRankedBefore t m → ⊥) → ⊥) → ⊥
least_rank zero S sized [] is found = found [] is (λ t other less. none_before t less)
least_rank zero S sized (x ∷ xs) is found = let some = sized (x ∷ xs) is in omega (arith, some)
least_rank (suc size) S sized [] is found = let some = sized [] is in omega (arith, some)
least_rank (suc size) S sized (x ∷ xs) is found =
    least {P = λ y. (ys : List ℕ) × S (y ∷ ys)} x (xs, is) (
    λ y has lower. least_rank size (λ ys. S (y ∷ ys)) (λ ys h. let more = sized (y ∷ ys) h in omega (arith, more)) has.0 has.1 (
    λ m h first. found (y ∷ m) h (no_less S (λ e. let some = sized [] e in omega (arith, some)) y lower m first)))
