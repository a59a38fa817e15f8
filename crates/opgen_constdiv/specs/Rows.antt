-- The digits of an input that is divided by a small constant, and the table that divides one of them.
use Rattle.std.specs.Prelude.{ℕ, zero, suc, ◌+◌, ◌-◌, ◌*◌, ◌/◌, ◌%◌, ◌^◌, ◌≤◌, Bool, List, [], ◌∷◌, ◌++◌, nat_lt, if◌then◌else◌}
use Rattle.opgen_num.specs.Formats.{digit_count}
use Rattle.opgen_num.specs.Words.{word}

-- a divisor of 2 to 32
pub record IsSmall (divisor : ℕ) : Type 0 where
  pub some : 2 ≤ divisor
  pub few : divisor ≤ 32

-- the bits of the greatest remainder
abbrev pub rest_width : (divisor : ℕ) → ℕ
rest_width divisor = digit_count (divisor - 1)

-- a remainder and a digit of the input have six bits
abbrev pub digit_width : (divisor : ℕ) → ℕ
digit_width divisor = 6 - rest_width divisor

-- an address is a remainder above a digit: its quotient above its remainder, or zero where that remainder is none
abbrev pub row : (divisor address : ℕ) → ℕ
row divisor address =
    if nat_lt (address / 2 ^ digit_width divisor) divisor then (address / divisor) * 2 ^ rest_width divisor + address % divisor else 0

-- the rows of the first so many addresses
abbrev pub rows_below : (divisor count : ℕ) → List (List Bool)
rows_below divisor zero = []
rows_below divisor (suc k) = rows_below divisor k ++ word 6 (row divisor k) ∷ []

abbrev pub rows : (divisor : ℕ) → List (List Bool)
rows divisor = rows_below divisor 64
