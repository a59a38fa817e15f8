-- Sums over the bit places of a word, and over all pairs of bit places of two factors.
use Rattle.std.specs.Prelude.{ℕ, zero, suc, ◌+◌}

-- f 0 + f 1 + .. + f (n - 1)
abbrev pub sum_to : ℕ → (ℕ → ℕ) → ℕ
sum_to zero f = 0
sum_to (suc n) f = sum_to n f + f n

-- the sum of f i j over the places i below m and j below n
abbrev pub sum_over_pairs : (m n : ℕ) → (ℕ → ℕ → ℕ) → ℕ
sum_over_pairs m n f = sum_to m (λ i. sum_to n (λ j. f i j))
