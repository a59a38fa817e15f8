-- Odd parts of numbers, and how many different ones some numbers have.
use Rattle.std.specs.Prelude.{ℕ, ◌+◌, ◌/◌, ◌^◌, ◌==◌, ◌&&◌, not, Bool, List, [], ◌∷◌, ℤ, unsigned_abs, if◌then◌else◌}
use Rattle.std.specs.Int.{trailing_zeros, w32}
use Rattle.std.specs.List.{list_any}

-- how often 2 divides a number above 0 and below 2 ^ 32, and what is left of it
abbrev pub power_of : ℕ → ℕ
power_of n = trailing_zeros w32 n

abbrev pub odd_part : ℕ → ℕ
odd_part n = n / 2 ^ power_of n

-- the number is not 0 and has this odd part, its sign aside
abbrev pub has_part : (part : ℕ) → ℤ → Bool
has_part part n = not (unsigned_abs n == 0) && (odd_part (unsigned_abs n) == part)

-- the number is not 0, and none of the others has its odd part
abbrev pub has_part_alone : ℤ → (others : List ℤ) → Bool
has_part_alone n others = not (unsigned_abs n == 0) && not (list_any (has_part (odd_part (unsigned_abs n))) others)

-- how many different odd parts the numbers other than 0 have: each part is counted where it comes last
abbrev pub odd_part_count : List ℤ → ℕ
odd_part_count [] = 0
odd_part_count (n ∷ ns) = if has_part_alone n ns then odd_part_count ns + 1 else odd_part_count ns
