-- Which numbers a format holds, and the least width that holds two numbers.
use Rattle.std.specs.Prelude.{ℕ, zero, suc, ◌+◌, ◌-◌, ◌/◌, ◌^◌, ◌≤◌, ◌<◌, max, Bool, true, false, ℤ, pos, negsuc, unsigned_abs, neg_ℤ, ◌-ℤ◌, ◌≤ℤ◌, int_lt}
use Rattle.opgen_num.specs.declared.format.TheConstants.{MAX_WIDTH, MAX_LSB}

-- the fewest bits of a format: a signed one has a bit below its sign
abbrev pub fewest_bits : (signed : Bool) → ℕ
fewest_bits false = 1
fewest_bits true = 2

-- a width that a signal of a format may have
abbrev pub IsWidthOf : (signed : Bool) (width : ℕ) → Type 0
IsWidthOf signed width = (fewest_bits signed ≤ width) × (width ≤ MAX_WIDTH)

-- a power of two that the lowest bit may weigh
abbrev pub IsLsb : ℤ → Type 0
IsLsb lsb = (neg_ℤ MAX_LSB ≤ℤ lsb) × (lsb ≤ℤ MAX_LSB)

-- the least and the greatest number of a width
abbrev pub least : (signed : Bool) (width : ℕ) → ℤ
least false width = pos 0
least true width = pos 0 -ℤ pos (2 ^ (width - 1))

abbrev pub greatest : (signed : Bool) (width : ℕ) → ℤ
greatest false width = pos (2 ^ width) -ℤ pos 1
greatest true width = pos (2 ^ (width - 1)) -ℤ pos 1

-- a number from the least to the greatest of the width
abbrev pub Holds : (signed : Bool) (width : ℕ) → ℤ → Type 0
Holds signed width n = (least signed width ≤ℤ n) × (n ≤ℤ greatest signed width)

-- numbers are signed where one of them is below zero
abbrev pub is_negative : ℤ → Bool
is_negative n = int_lt n (pos 0)

-- a format of this width holds lo and hi, and so all whole numbers between
abbrev pub HoldsBoth : (signed : Bool) (lo hi : ℤ) (width : ℕ) → Type 0
HoldsBoth signed lo hi width = (fewest_bits signed ≤ width) × Holds signed width lo × Holds signed width hi

-- no smaller width holds both
abbrev pub IsLeastWidth : (lo hi : ℤ) (width : ℕ) → Type 0
IsLeastWidth lo hi width =
    HoldsBoth (is_negative lo) lo hi width × ((other : ℕ) → HoldsBoth (is_negative lo) lo hi other → width ≤ other)

-- no signal is wide enough for lo and hi
abbrev pub IsTooWide : (lo hi : ℤ) → Type 0
IsTooWide lo hi = (width : ℕ) → HoldsBoth (is_negative lo) lo hi width → MAX_WIDTH < width

-- the number of binary digits, none for 0; a number has no more digits than it counts
abbrev pub digits_within : (most n : ℕ) → ℕ
digits_within zero n = 0
digits_within (suc most) zero = 0
digits_within (suc most) (suc n) = suc (digits_within most (suc n / 2))

abbrev pub digit_count : ℕ → ℕ
digit_count n = digits_within n n

-- the least width, in numbers: -a - 1 and b have their sign and as many bits as a and b have digits
abbrev pub range_width : (lo hi : ℤ) → ℕ
range_width (pos a) hi = max (digit_count (unsigned_abs hi)) 1
range_width (negsuc a) (pos b) = max (digit_count (max a b) + 1) 2
range_width (negsuc a) (negsuc b) = max (digit_count a + 1) 2
