-- The columns of a product of m by n bits: the bits i and j of the factors make a bit of weight 2 ^ (i + j), in column i + j.
use Rattle.std.specs.Prelude.{ℕ, ◌≡◌, ◌+◌, ◌-◌, ◌^◌, ◌≤◌, min, nat_eq, nat_lt, if◌then◌else◌}
use Rattle.opgen_budget.specs.Sums.{sum_over_pairs}

-- how many pairs of places have the column
abbrev pub bits_in_column : (m n column : ℕ) → ℕ
bits_in_column m n column = sum_over_pairs m n (λ i j. if nat_eq (i + j) column then 1 else 0)

-- the weight of all bits in so many of the lowest columns
abbrev pub weight_below : (m n columns : ℕ) → ℕ
weight_below m n columns = sum_over_pairs m n (λ i j. if nat_lt (i + j) columns then 2 ^ (i + j) else 0)

-- the greatest number of columns, up to all of them, whose bits weigh at most 2 ^ (p - 1)
abbrev pub IsGreatestCut : (m n p columns : ℕ) → Type 0
IsGreatestCut m n p columns =
    (columns ≤ m + n - 1) × (weight_below m n columns ≤ 2 ^ (p - 1))
    × ((more : ℕ) → more ≤ m + n - 1 → weight_below m n more ≤ 2 ^ (p - 1) → more ≤ columns)

-- a column has one bit more than the one before it, up to the narrower factor's width, and as many fewer towards the highest column
abbrev pub HasColumns : Type 0
HasColumns = (m n column : ℕ) → bits_in_column m n column ≡ min (min (column + 1) m) (min n (m + n - 1 - column))
