-- A sum of tables in guard units, rounded to whole units: half a unit is added, and the guard bits are dropped.
use Rattle.std.proofs.Common.{◌≡◌, ℕ, ◌+◌, ◌*◌, ◌<◌, ◌≤◌, ap, arith}
use Rattle.std.specs.Prelude.{ℤ, pos, ◌+ℤ◌, ◌-ℤ◌, ◌*ℤ◌, ◌≤ℤ◌}
use Rattle.std.proofs.Math.Nat.{mul-le-mul_left, mul-lt-mul_of_pos_left, lt_of_mul-lt-mul_left}
use Rattle.std.proofs.lemmas.Int.{ints}
use borrow.Author.Differences.{up, down}
use Rattle.opgen_num.specs.Floors.{IsFloor}
use Rattle.opgen_num.specs.Rounding.{IsWithinOne}
use Rattle.opgen_num.proofs.Integers.{product-sum}
use Rattle.opgen_num.proofs.Quotients.{within_one}

-- the numbers above zero and below it apart
within : (m g h k y y' e e' n n' : ℕ) → 0 < m → k < g → g ≡ h + h
    → g * y + e' ≤ e + h + g * y' → e + h + g * y' < g * y + g + e'
    → 2 * (m * e) + 2 * (g * n') ≤ 2 * (g * n) + k * m + 2 * (m * e') → 2 * (g * n) + 2 * (m * e') ≤ 2 * (m * e) + k * m + 2 * (g * n')
    → (m * y + n' < n + m + m * y') × (n + m * y' < m * y + m + n')
within m g h k y y' e e' n n' some few halves low high over under =
    let floor = mul-le-mul_left (2 * m) low in
    let next = mul-lt-mul_of_pos_left {k = 2 * m} high (omega (arith, some)) in
    let tables = mul-lt-mul_of_pos_left {k = m} few some in
    let unit : m * g ≡ m * (h + h) = ap (λ i. m * i) halves in (
      lt_of_mul-lt-mul_left (2 * g) (omega (arith, floor, tables, unit, over)),
      lt_of_mul-lt-mul_left (2 * g)
          (omega (arith, next, tables, unit, under)),
    )

-- fewer tables than guard units in a unit, each half a guard unit off at most, leave less than one unit
pub rounds : (m g h k : ℕ) (e n y : ℤ) → 0 < m → k < g → g ≡ h + h
    → (pos 2 *ℤ (pos m *ℤ e)) ≤ℤ ((pos 2 *ℤ (n *ℤ pos g)) +ℤ (pos k *ℤ pos m))
    → ((pos 2 *ℤ (n *ℤ pos g)) -ℤ (pos k *ℤ pos m)) ≤ℤ (pos 2 *ℤ (pos m *ℤ e))
    → IsFloor (e +ℤ pos h) (pos g) y → IsWithinOne n (pos m) y
rounds m g h k e n y some few halves over under (low, high) =
    let next = product-sum (pos g) y (pos 1) in
    let w = within m g h k (up y) (down y) (up e) (down e) (up n) (down n) some few halves
    (omega (arith, ints, low)) (omega (arith, ints, high, next)) (omega (arith, ints, over)) (omega (arith, ints, under)) in
    within_one n (pos m) y (omega (arith, ints, w.0)) (omega (arith, ints, w.1))
