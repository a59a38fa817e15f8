-- A whole number that is, or is less than one away from, a fraction, by the quotient and the rest of the fraction.
use Rattle.std.proofs.Common.{◌≡◌, ◌*◌, ◌≤◌, ap, arith, ℕ}
use Rattle.std.specs.Prelude.{ℤ, pos, negsuc, ◌+ℤ◌, ◌*ℤ◌, ◌<ℤ◌, ◌≤ℤ◌, FitsSigned}
use Rattle.std.specs.Int.{int_div_euclid, int_rem_euclid, w128}
use Rattle.std.proofs.Math.Nat.{mul-le-mul_left}
use Rattle.std.proofs.lemmas.Int.{ints}
use Rattle.std.proofs.lemmas.Nat.{div-add-mod'}
use Rattle.opgen_num.specs.Rounding.{IsWithinOne, IsExact, IsQuotient}
use Rattle.opgen_num.proofs.Integers.{products, product_cancel}

pub quotient_and_rest : (n m : ℤ) → pos 0 <ℤ m → ((int_div_euclid n m *ℤ m) +ℤ int_rem_euclid n m) ≡ n
quotient_and_rest (pos n) (pos m) h = omega (arith, ints, div-add-mod' n m)
quotient_and_rest (negsuc n) (pos m) h = omega (arith, ints, div-add-mod' n m)
quotient_and_rest n (negsuc m) h = absurd (omega (arith, ints))

-- the distance, as two inequalities
pub within_one : (n m y : ℤ) → (m *ℤ y) <ℤ (n +ℤ m) → n <ℤ ((m *ℤ y) +ℤ m) → IsWithinOne n m y
within_one n m y high low = omega (arith, ints)

pub within_one-bounds : (n m y : ℤ) → IsWithinOne n m y → ((m *ℤ y) <ℤ (n +ℤ m)) × (n <ℤ ((m *ℤ y) +ℤ m))
within_one-bounds n m y h = (omega (arith, ints), omega (arith, ints))

module _ (n m q r : ℤ) (positive : pos 0 <ℤ m) (whole : ((q *ℤ m) +ℤ r) ≡ n) (low : pos 0 ≤ℤ r) (high : r <ℤ m) where
  pub exact_if : (y : ℤ) → y ≡ q → r ≡ pos 0 → IsExact n m y
  exact_if y h g = omega (arith, ints, ap (λ z. m *ℤ z) h)

  pub within_one_next : (y : ℤ) → y ≡ q +ℤ pos 1 → pos 0 <ℤ r → IsWithinOne n m y
  within_one_next y h g = within_one n m y (omega (arith, products, ap (λ z. m *ℤ z) h)) (omega (arith, products, ap (λ z. m *ℤ z) h))

  -- a number within one of the fraction is the quotient or, where there is a rest, the next
  pub within_one_only : (y : ℤ) → IsWithinOne n m y → (q ≤ℤ y) × (y ≤ℤ (q +ℤ pos 1)) × (r ≡ pos 0 → y ≡ q)
  within_one_only y h =
      let bounds = within_one-bounds n m y h in
      let above : q <ℤ (y +ℤ pos 1) = product_cancel m q (y +ℤ pos 1) (omega (arith, ints)) (omega (arith, products, bounds.0, bounds.1)) in
      let below : y <ℤ (q +ℤ pos 2) = product_cancel m y (q +ℤ pos 2) (omega (arith, ints)) (omega (arith, products, bounds.0, bounds.1)) in (
        omega (arith, ints),
        omega (arith, ints),
        λ z.
            let under : y <ℤ (q +ℤ pos 1) = product_cancel m y (q +ℤ pos 1) (omega (arith, ints))
            (omega (arith, products, bounds.0, bounds.1)) in
            omega (arith, ints),
      )

  pub exact_only : (y : ℤ) → IsExact n m y → (y ≡ q) × (r ≡ pos 0)
  exact_only y h =
      let above : q <ℤ (y +ℤ pos 1) = product_cancel m q (y +ℤ pos 1) (omega (arith, ints)) (omega (arith, products)) in
      let below : y <ℤ (q +ℤ pos 1) = product_cancel m y (q +ℤ pos 1) (omega (arith, ints)) (omega (arith, products)) in
      let same : y ≡ q = omega (arith, ints) in
      (same, omega (arith, ints, ap (λ z. m *ℤ z) same))

-- where there is a rest, the next number after the quotient is no greater than one that fits
pub next_fits : (n m q r : ℤ) → ((q *ℤ m) +ℤ r) ≡ n → pos 0 <ℤ r → r <ℤ m → FitsSigned w128 q → FitsSigned w128 n
    → FitsSigned w128 (q +ℤ pos 1)
next_fits n (pos m) (pos q) r whole low high f g =
    let twice : q * 2 ≤ q * m = mul-le-mul_left q (omega (arith, ints)) in
    omega (arith, ints)
next_fits n m (negsuc q) r whole low high f g = omega (arith, ints)
next_fits n (negsuc m) (pos q) r whole low high f g = absurd (omega (arith, ints))

-- a quotient rounded down is less than one away
pub quotient_near : (x c q r : ℕ) → IsQuotient x c q r → IsWithinOne (pos x) (pos c) (pos q)
quotient_near x c q r h = omega (arith, ints, h.0, h.1)
