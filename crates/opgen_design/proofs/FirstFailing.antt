-- The first place of a list at which something fails, found step by step.
use Rattle.std.proofs.Common.{◌≡◌, ℕ, ◌+◌, ◌≤◌, List, length, Some, None, IfSome, sym, subst, inl, inr, arith}
use Rattle.std.specs.Prelude.{slice_get}
use Rattle.std.proofs.lemmas.Bool.{cases_lt, cases_eq}
use Rattle.std.proofs.lemmas.Option.{slice_get_within, slice_get_past}
use Rattle.opgen_design.specs.Rules.{HoldsBefore, IsFirstFailing}

module _ {X : Type 0} (P : ℕ → X → Type 0) (xs : List X) where
  pub before-none : HoldsBefore P xs 0
  before-none = λ i l. absurd (omega (arith, l))

  pub at-item : (n : ℕ) (x : X) → slice_get xs n ≡ Some x → P n x → IfSome (slice_get xs n) (P n)
  at-item n x e h = subst (λ o. IfSome o (P n)) (sym e) h

  pub of-item : (n : ℕ) (x : X) → slice_get xs n ≡ Some x → IfSome (slice_get xs n) (P n) → P n x
  of-item n x e h = subst (λ o. IfSome o (P n)) e h

  pub before-more : (n : ℕ) (x : X) → slice_get xs n ≡ Some x → P n x → HoldsBefore P xs n → HoldsBefore P xs (n + 1)
  before-more n x e h b = λ i l.
      elim (cases_eq i n) [
        | inl f ↦ subst (λ j. IfSome (slice_get xs j) (P j)) (sym f) (at-item n x e h)
        | inr d ↦ b i (omega (arith, l, d))
      ]

  pub failing-at : (n : ℕ) (x : X) → slice_get xs n ≡ Some x → (P n x → ⊥) → HoldsBefore P xs n → IsFirstFailing P xs (Some n)
  failing-at n x e never b = (b, slice_get_within xs n x e, λ h. never (of-item n x e h))

  pub none-failing : (n : ℕ) → length xs ≤ n → HoldsBefore P xs n → IsFirstFailing P xs None
  none-failing n l b = λ i.
      elim (cases_lt i n) [
        | inl m ↦ b i m
        | inr m ↦ subst (λ o. IfSome o (P i)) (sym (slice_get_past xs i (omega (arith, l, m)))) tt
      ]
