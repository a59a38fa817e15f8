-- The partial sums of the signed digits of a number.
use Rattle.std.specs.Prelude.{◌≡◌, ℕ, ◌≤◌, ℤ, List, [], ◌∷◌, ◌++◌, map, drop, slice_index, unsigned_abs, if◌then◌else◌}
use Rattle.opgen_csd.specs.Digits.{value_of, is_zero}

-- the lowest digits up to a digit that is not zero, for each such digit from the lowest up
abbrev pub cuts : List ℤ → List (List ℤ)
cuts [] = []
cuts (d ∷ ds) = (if is_zero d then [] else (d ∷ []) ∷ []) ++ map (λ c. d ∷ c) (cuts ds)

-- the absolute sums of the lowest two, three and more digits that are not zero
abbrev pub partials : List ℤ → List ℕ
partials ds = map (λ c. unsigned_abs (value_of c)) (drop 1 (cuts ds))

-- what holds of the fields of each `Partials`: zeros above the sums
pub record IsFilled (sums : List ℕ) (len : ℕ) : Type 0 where
  pub short : len ≤ 32
  pub zeros : (k : ℕ) → len ≤ k → slice_index sums k ≡ 0
