-- When a whole number is good for a fraction or a root: exact, faithful, which is less than one unit away, or rounded down or to the
-- nearest (de Dinechin and Kumm, Application-Specific Arithmetic).
use Rattle.std.specs.Prelude.{◌≡◌, ℕ, ◌+◌, ◌-◌, ◌*◌, ◌<◌, ◌≤◌, ◌⊎◌, ℤ, pos, ◌-ℤ◌, ◌*ℤ◌, ◌<ℤ◌, unsigned_abs, ◌+ℤ◌}
use Rattle.std.specs.Int.{int_div_euclid}
use Rattle.opgen_num.specs.declared.mode.Mode.{Mode}
use Rattle.opgen_num.specs.declared.mode.Mode.TheVariants.{Exact, Faithful, Down, Nearest}
use Rattle.opgen_num.specs.Floors.{IsFloor}

abbrev pub distance : ℤ → ℤ → ℕ
distance a b = unsigned_abs (a -ℤ b)

-- y is less than one away from n / m
abbrev pub IsWithinOne : (n m y : ℤ) → Type 0
IsWithinOne n m y = pos (distance (m *ℤ y) n) <ℤ m

-- y is n / m itself
abbrev pub IsExact : (n m y : ℤ) → Type 0
IsExact n m y = m *ℤ y ≡ n

-- y is the floor of n / m + 1/2
abbrev pub IsNearest : (n m y : ℤ) → Type 0
IsNearest n m y = IsFloor ((pos 2 *ℤ n) +ℤ m) (pos 2 *ℤ m) y

-- y is good for n / m, in a mode
abbrev pub IsGoodLinear : (n m y : ℤ) (mode : Mode) → Type 0
IsGoodLinear n m y Exact = IsExact n m y
IsGoodLinear n m y Faithful = IsWithinOne n m y
IsGoodLinear n m y Down = IsFloor n m y
IsGoodLinear n m y Nearest = IsNearest n m y

-- y is less than one away from the square root of n
abbrev pub IsGoodRoot : (n y : ℕ) → Type 0
IsGoodRoot n y = (n < (y + 1) * (y + 1)) × ((y ≡ 0) ⊎ ((y - 1) * (y - 1) < n))

-- q is the quotient of n by b rounded down, and r the remainder
abbrev pub IsQuotient : (n b q r : ℕ) → Type 0
IsQuotient n b q r = (n ≡ q * b + r) × (r < b)

-- y is the square root of n rounded down, and r the remainder
abbrev pub IsRoot : (n y r : ℕ) → Type 0
IsRoot n y r = (n ≡ y * y + r) × (r ≤ 2 * y)

-- n / m to the nearest whole number, half a unit up: the floor of n / m + 1/2
abbrev pub nearest : (n m : ℤ) → ℤ
nearest n m = int_div_euclid ((pos 2 *ℤ n) +ℤ m) (pos 2 *ℤ m)
