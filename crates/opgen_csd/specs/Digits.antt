-- Signed digits, the lowest first, and the canonical form of a number (de Dinechin and Kumm, Application-Specific Arithmetic).
use Rattle.std.specs.Prelude.{◌≡◌, ◌≢◌, ℕ, zero, suc, ◌+◌, ◌^◌, ◌≤◌, ◌<◌, ℤ, pos, negsuc, ◌+ℤ◌, ◌≤ℤ◌, Bool, true, false, List, [], ◌∷◌, take, slice_index_or, unsigned_abs, if◌then◌else◌}

-- -1, 0 or 1
abbrev pub IsDigit : ℤ → Type 0
IsDigit d = (negsuc 0 ≤ℤ d) × (d ≤ℤ pos 1)

abbrev pub AllDigits : List ℤ → Type 0
AllDigits [] = Unit {0}
AllDigits (d ∷ ds) = IsDigit d × AllDigits ds

-- the sum of the digits, each times 2 to its place
abbrev pub value_of : List ℤ → ℤ
value_of [] = pos 0
value_of (d ∷ ds) = d +ℤ (value_of ds +ℤ value_of ds)

-- a digit that is not zero has a zero above it, and the highest digit is not zero
abbrev pub MayStandBelow : ℤ → List ℤ → Type 0
MayStandBelow d [] = d ≢ pos 0
MayStandBelow d (e ∷ ds) = d ≢ pos 0 → e ≡ pos 0

abbrev pub IsCanonical : List ℤ → Type 0
IsCanonical [] = Unit {0}
IsCanonical (d ∷ ds) = IsDigit d × MayStandBelow d ds × IsCanonical ds

abbrev pub is_zero : ℤ → Bool
is_zero (pos zero) = true
is_zero (pos (suc n)) = false
is_zero (negsuc n) = false

-- how many digits are not zero
abbrev pub nonzeros : List ℤ → ℕ
nonzeros [] = 0
nonzeros (d ∷ ds) = (if is_zero d then 0 else 1) + nonzeros ds

-- what holds of the fields of each `Digits`: the canonical form of a number below 2 ^ 62, and zeros above it
pub record IsRecoded (digits : List ℤ) (len : ℕ) : Type 0 where
  pub canonical : IsCanonical (take len digits)
  pub in_range : unsigned_abs (value_of (take len digits)) < 2 ^ 62
  pub short : len ≤ 63
  pub zeros : (k : ℕ) → len ≤ k → slice_index_or digits k (pos 0) ≡ pos 0
