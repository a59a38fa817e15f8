-- Membership in lists of numbers, by cases.
use Rattle.std.proofs.Common.{◌≡◌, ◌⊎◌, inl, inr, ℕ, zero, suc, List, [], ◌∷◌, Contains, refl, arith}

pub here : (x : ℕ) (xs : List ℕ) → Contains (x ∷ xs) x
here x xs = (0, omega arith, refl)

pub there : (x y : ℕ) (xs : List ℕ) → Contains xs y → Contains (x ∷ xs) y
there x y xs c = (suc c.0, omega (arith, c.1), c.2)

pub of_cons : (x y : ℕ) (xs : List ℕ) → Contains (x ∷ xs) y → (x ≡ y) ⊎ Contains xs y
of_cons x y xs (zero, lt, e) = inl e
of_cons x y xs (suc k, lt, e) = inr (k, omega (arith, lt), e)

pub of_nil : (y : ℕ) → Contains [] y → ⊥
of_nil y c = omega (arith, c.1)
