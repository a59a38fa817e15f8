-- The cost of a set of adders in bits: the width of each sum, for an input of a given width.
use Rattle.std.specs.Prelude.{ℕ, ◌+◌, ◌-◌, List, sum_by}
use Rattle.std.specs.Int.{leading_zeros, w32}

-- the binary digits of a number below 2 ^ 32
abbrev pub bit_length : ℕ → ℕ
bit_length n = 32 - leading_zeros w32 n

-- an adder for n has as many bits as the product of n and an input of the width
abbrev pub adder_cost : (width n : ℕ) → ℕ
adder_cost width n = width + bit_length n

abbrev pub set_cost : (width : ℕ) → List ℕ → ℕ
set_cost width set = sum_by (adder_cost width) set
