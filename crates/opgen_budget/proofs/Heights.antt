-- The number of bits in a column of a product.
use Rattle.std.proofs.Common.{◌≡◌, ℕ, zero, suc, ◌+◌, ◌<◌, ◌≤◌, ⊎_elim, refl, ap, cond, eqb, ne_eqb, eq-eqb, arith}
use Rattle.std.proofs.lemmas.Bool.{cases_lt}
use Rattle.opgen_budget.specs.Sums.{sum_to}
use Rattle.opgen_budget.specs.Columns.{HasColumns}

abbrev same : (a b : ℕ) → ℕ
same a b = cond (eqb a b) 1 0

hit : (a b : ℕ) → a ≡ b → same a b ≡ 1
hit a b e = ap (λ t. cond t 1 0) (eq-eqb a b e)

miss : (a b : ℕ) → (a ≡ b → ⊥) → same a b ≡ 0
miss a b ne = ap (λ t. cond t 1 0) (ne_eqb a b ne)

-- the bits that row i of n bits has in the column
abbrev in_row : (n i column : ℕ) → ℕ
in_row n i column = sum_to n (λ j. same (i + j) column)

above : (n i column : ℕ) → i + n ≤ column → in_row n i column ≡ 0
above zero i column h = refl
above (suc n) i column h = omega (arith, above n i column (omega (arith, h)), miss (i + n) column (λ e. omega (arith, e, h)))

below : (n i column : ℕ) → column < i → in_row n i column ≡ 0
below zero i column h = refl
below (suc n) i column h = omega (arith, below n i column h, miss (i + n) column (λ e. omega (arith, e, h)))

within : (n i column : ℕ) → i ≤ column → column < i + n → in_row n i column ≡ 1
within zero i column low high = absurd (omega (arith, low, high))
within (suc n) i column low high =
    ⊎_elim
    (λ (h : column < i + n). omega (arith, within n i column low h, miss (i + n) column (λ e. omega (arith, e, h))))
    (λ (h : i + n ≤ column). omega (arith, above n i column h, hit (i + n) column (omega (arith, h, high))))
    (cases_lt column (i + n))

pub column-bits : HasColumns
column-bits zero n column = omega arith
column-bits (suc m) n column =
    ⊎_elim
    (λ (h : column < m). omega (arith, column-bits m n column, below n m column h, h))
    (λ (h : m ≤ column). ⊎_elim
    (λ (g : column < m + n). omega (arith, column-bits m n column, within n m column h g, h, g))
    (λ (g : m + n ≤ column). omega (arith, column-bits m n column, above n m column g, g))
    (cases_lt column (m + n)))
    (cases_lt column m)
