-- Lists: their sums, what a search passed by, and what a filter keeps.
use Rattle.std.proofs.Common.{◌≡◌, ℕ, zero, suc, ◌+◌, ◌<◌, Bool, true, false, cond, List, [], ◌∷◌, length, get_or, filter, Some, None, refl, arith, inl, inr}
use Rattle.std.specs.List.{sum, position_from}
use Rattle.std.specs.Prelude.{All, ℤ, pos}
use Rattle.std.proofs.lemmas.Bool.{cases_Bool}
use Rattle.std.proofs.lemmas.List.Elements.{All-nil, All-cons, All-head, All-tail}
use Rattle.std.proofs.lemmas.List.Sums.{sum_by-cons}

pub sum-cons : (x : ℕ) (xs : List ℕ) → sum (x ∷ xs) ≡ x + sum xs
sum-cons x xs = sum_by-cons (λ n. n) x xs

-- where no number passes a test, each fails it
pub none-passes : (p : ℤ → Bool) (i : ℕ) (cs : List ℤ) (k : ℕ) → position_from p i cs ≡ None → k < length cs → p (get_or cs k (pos 0)) ≡ false
none-passes p i [] k e h = absurd (omega (arith, h))
none-passes p i (c ∷ cs) zero e h = by (p c) e
  where
    by : (b : Bool) → cond b (Some i) (position_from p (i + 1) cs) ≡ None → b ≡ false
    by true g = cc
    by false g = refl
none-passes p i (c ∷ cs) (suc k) e h = by (λ g. none-passes p (i + 1) cs k g (omega (arith, h))) (p c) e
  where
    by : (position_from p (i + 1) cs ≡ None → p (get_or cs k (pos 0)) ≡ false) → (b : Bool)
        → cond b (Some i) (position_from p (i + 1) cs) ≡ None → p (get_or cs k (pos 0)) ≡ false
    by later true g = cc
    by later false g = later g

-- what passes a test has what holds of all, and all that it has from passing
pub kept : {X : Type 0} (p : X → Bool) (P Q : X → Type 0) → ((x : X) → p x ≡ true → P x → Q x) → (xs : List X) → All P xs
    → All Q (filter p xs)
kept p P Q f [] all = All-nil Q
kept p P Q f (x ∷ xs) all = elim (cases_Bool (p x)) [
  | inl passes ↦ rw passes (All-cons Q x (filter p xs) (f x passes (All-head P x xs all)) (kept p P Q f xs (All-tail P x xs all)))
  | inr fails ↦ rw fails (kept p P Q f xs (All-tail P x xs all))
]
