-- Sums over places and over pairs of places.
use Rattle.std.proofs.Common.{◌≡◌, ℕ, zero, suc, ◌+◌, ◌*◌, ◌<◌, ◌≤◌, refl, arith}
use Rattle.opgen_budget.specs.Sums.{sum_to, sum_over_pairs}

pub sum-same : (n : ℕ) (f g : ℕ → ℕ) → ((i : ℕ) → i < n → f i ≡ g i) → sum_to n f ≡ sum_to n g
sum-same zero f g e = refl
sum-same (suc n) f g e = omega (arith, e n (omega arith), sum-same n f g (λ i h. e i (omega (arith, h))))

pub sum-zero : (n : ℕ) → sum_to n (λ i. 0) ≡ 0
sum-zero zero = refl
sum-zero (suc n) = omega (arith, sum-zero n)

pub sum-plus : (n : ℕ) (f g : ℕ → ℕ) → sum_to n (λ i. f i + g i) ≡ sum_to n f + sum_to n g
sum-plus zero f g = refl
sum-plus (suc n) f g = omega (arith, sum-plus n f g)

pub sum-times : (n : ℕ) (f : ℕ → ℕ) (k : ℕ) → sum_to n (λ i. f i * k) ≡ sum_to n f * k
sum-times zero f k = omega arith
sum-times (suc n) f k = omega (arith, sum-times n f k)

pub sum-order : (n : ℕ) (f g : ℕ → ℕ) → ((i : ℕ) → i < n → f i ≤ g i) → sum_to n f ≤ sum_to n g
sum-order zero f g e = omega arith
sum-order (suc n) f g e = omega (arith, e n (omega arith), sum-order n f g (λ i h. e i (omega (arith, h))))

module _ (m n : ℕ) (f g : ℕ → ℕ → ℕ) where
  pub pairs-same : ((i j : ℕ) → i < m → j < n → f i j ≡ g i j) → sum_over_pairs m n f ≡ sum_over_pairs m n g
  pairs-same e = sum-same m (λ i. sum_to n (f i)) (λ i. sum_to n (g i)) (λ i h. sum-same n (f i) (g i) (λ j l. e i j h l))

  pub pairs-plus : sum_over_pairs m n (λ i j. f i j + g i j) ≡ sum_over_pairs m n f + sum_over_pairs m n g
  pairs-plus =
      let rows = sum-same m (λ i. sum_to n (λ j. f i j + g i j)) (λ i. sum_to n (f i) + sum_to n (g i)) (λ i h. sum-plus n (f i) (g i)) in
      omega (arith, rows, sum-plus m (λ i. sum_to n (f i)) (λ i. sum_to n (g i)))

  pub pairs-order : ((i j : ℕ) → i < m → j < n → f i j ≤ g i j) → sum_over_pairs m n f ≤ sum_over_pairs m n g
  pairs-order e = sum-order m (λ i. sum_to n (f i)) (λ i. sum_to n (g i)) (λ i h. sum-order n (f i) (g i) (λ j l. e i j h l))

pub pairs-times : (m n : ℕ) (f : ℕ → ℕ → ℕ) (k : ℕ) → sum_over_pairs m n (λ i j. f i j * k) ≡ sum_over_pairs m n f * k
pairs-times m n f k =
    let rows = sum-same m (λ i. sum_to n (λ j. f i j * k)) (λ i. sum_to n (f i) * k) (λ i h. sum-times n (f i) k) in
    omega (arith, rows, sum-times m (λ i. sum_to n (f i)) k)
