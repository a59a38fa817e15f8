-- Laws of canonical signed digits and of their partial sums.
use Rattle.std.specs.Prelude.{◌≡◌, ◌⊎◌, ℕ, ◌+◌, ◌^◌, ◌%◌, ◌≤◌, ◌<◌, ℤ, pos, List, Contains}
use Rattle.opgen_csd.specs.Digits.{IsCanonical, AllDigits, value_of, nonzeros}
use Rattle.opgen_csd.specs.Partials.{partials}

-- a number has a canonical form
abbrev pub SomeForm : Type 0
SomeForm = (n : ℤ) → (ds : List ℤ) × IsCanonical ds × (value_of ds ≡ n)

-- and no more than one
abbrev pub OneForm : Type 0
OneForm = (ds es : List ℤ) → IsCanonical ds → IsCanonical es → value_of ds ≡ value_of es → ds ≡ es

-- no digits of the same value have fewer that are not zero
abbrev pub FewestNonzeros : Type 0
FewestNonzeros = (ds es : List ℤ) → IsCanonical ds → AllDigits es → value_of ds ≡ value_of es → nonzeros ds ≤ nonzeros es

-- x is the sum or the difference of a power of two and a smaller number, which is 1 or one of these
abbrev pub IsStep : List ℕ → ℕ → Type 0
IsStep sums x = (i : ℕ) × (y : ℕ) × (1 ≤ i) × (y < x) × ((y ≡ 1) ⊎ Contains sums y) × ((2 ^ i + y ≡ x) ⊎ (2 ^ i ≡ x + y))

-- each partial sum of an odd number t is odd, above 1, at most t, and one step above a smaller one or above 1
pub record IsPartialSum (t : ℕ) (sums : List ℕ) (x : ℕ) : Type 0 where
  pub odd : x % 2 ≡ 1
  pub large : 1 < x
  pub most : x ≤ t
  pub step : IsStep sums x

abbrev pub PartialsStepUp : Type 0
PartialsStepUp = (ds : List ℤ) (t : ℕ) → IsCanonical ds → value_of ds ≡ pos t → t % 2 ≡ 1
    → (x : ℕ) → Contains (partials ds) x → IsPartialSum t (partials ds) x

-- an odd number above 1 is the last of its own partial sums
abbrev pub PartialsEndInNumber : Type 0
PartialsEndInNumber = (ds : List ℤ) (t : ℕ) → IsCanonical ds → value_of ds ≡ pos t → t % 2 ≡ 1 → 1 < t → Contains (partials ds) t
