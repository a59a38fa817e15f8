-- How near numbers are to multiples of a denominator: sums of such numbers, other denominators, and the sum without its guard bits.
use Rattle.std.proofs.Common.{◌≡◌, ℕ, ◌+◌, ◌*◌, ◌<◌, ◌≤◌, sym, ap, ◌∙◌, arith}
use Rattle.std.specs.Prelude.{ℤ, pos, ◌+ℤ◌, ◌*ℤ◌, ◌≤ℤ◌, ◌<ℤ◌}
use Rattle.std.proofs.Math.Nat.{mul-lt-mul_of_pos_left, mul-le-mul_left}
use Rattle.std.proofs.lemmas.Int.{ints}
use Rattle.opgen_num.specs.Floors.{IsFloor}
use Rattle.opgen_num.specs.Rounding.{IsWithinOne}
use Rattle.opgen_num.proofs.Integers.{product-sum, product_assoc, product_order, product_cancel, commuted}
use Rattle.opgen_num.proofs.Quotients.{within_one}
use Rattle.opgen_sop.specs.Summed.{twice, IsNear}

pub near-none : (m : ℕ) → IsNear m (pos 0) (pos 0) 0 0
near-none m = record { low = omega (arith, ints); high = omega (arith, ints) }

pub near-sum : (m : ℕ) (a b e f : ℤ) (j k c d : ℕ) → IsNear m a e j c → IsNear m b f k d → IsNear m (a +ℤ b) (e +ℤ f) (j + k) (c + d)
near-sum m a b e f j k c d h l =
    let sum = product-sum (pos m) e f in
    record {
      low = omega (arith, ints, sum, h.low, l.low);
      high = omega (arith, ints, sum, h.high, l.high);
    }

-- a denominator of two factors
moved : (q m : ℕ) (e : ℤ) → pos (q * m) *ℤ e ≡ pos m *ℤ (pos q *ℤ e)
moved q m e =
    let natural : pos (q * m) ≡ pos m *ℤ pos q = omega (arith, ints) in
    ap (λ z. z *ℤ e) natural ∙ product_assoc (pos m) (pos q) e

doubled : (m : ℕ) (a : ℤ) (b : ℕ) → pos m *ℤ (twice a +ℤ pos b) ≡ twice (pos m *ℤ a) +ℤ pos (b * m)
doubled m a b =
    let natural : pos m *ℤ pos b ≡ pos (b * m) = omega (arith, ints) in
    product-sum (pos m) (twice a) (pos b) ∙ ap (λ z. z +ℤ (pos m *ℤ pos b)) (product-sum (pos m) a a)
    ∙ ap (λ z. twice (pos m *ℤ a) +ℤ z) natural

pub near-times : (q m : ℕ) (n e : ℤ) (j c : ℕ) → IsNear q n e j c → IsNear (q * m) (pos m *ℤ n) e j c
near-times q m n e j c h =
    let some : pos 0 ≤ℤ pos m = omega (arith, ints) in
    let E = pos q *ℤ e in
    let low = product_order (pos m) (twice E) (twice n +ℤ pos (j * q)) some h.low in
    let high = product_order (pos m) (twice n) (twice E +ℤ pos ((j + 2 * c) * q)) some h.high in
    record {
      low = omega (arith, ints, low, product-sum (pos m) E E, doubled m n (j * q), moved q m e);
      high = omega (arith, ints, high, product-sum (pos m) n n, doubled m E ((j + 2 * c) * q), moved q m e);
    }

less_cancel : (m : ℕ) (a b : ℤ) → 0 < m → (pos m *ℤ a) ≤ℤ (pos m *ℤ b) → a ≤ℤ b
less_cancel m a b some h =
    let next : (pos m *ℤ a) <ℤ (pos m *ℤ (b +ℤ pos 1)) = omega (arith, ints, h, some, product-sum (pos m) b (pos 1)) in
    let below = product_cancel (pos m) a (b +ℤ pos 1) (omega (arith, ints)) next in
    omega (arith, ints, below)

pub near-cancel : (q m : ℕ) (n e : ℤ) (j c : ℕ) → 0 < m → IsNear (q * m) (pos m *ℤ n) e j c → IsNear q n e j c
near-cancel q m n e j c some h =
    let E = pos q *ℤ e in
    record {
      low = less_cancel m (twice E) (twice n +ℤ pos (j * q)) some
          (omega (arith, ints, h.low, product-sum (pos m) E E, doubled m n (j * q), moved q m e));
      high = less_cancel m (twice n) (twice E +ℤ pos ((j + 2 * c) * q)) some
          (omega (arith, ints, h.high, product-sum (pos m) n n, doubled m E ((j + 2 * c) * q), moved q m e));
    }

-- A sum in guard units with what rounds it, without the guard bits: less than one unit off.
pub rounded : (m g j c k : ℕ) (n e y : ℤ) → 0 < m → 0 < g → j + 2 * c ≤ 2 * k → j + 2 * k < 2 * g
    → IsNear m (n *ℤ pos g) e j c → IsFloor (e +ℤ pos k) (pos g) y → IsWithinOne n (pos m) y
rounded m g j c k n e y some guard low high h (under, over) =
    let Y = pos m *ℤ y in
    let some-m : pos 0 ≤ℤ pos m = omega (arith, ints) in
    let turn : pos g *ℤ Y ≡ pos m *ℤ (pos g *ℤ y) =
    sym (product_assoc (pos g) (pos m) y) ∙ ap (λ z. z *ℤ y) (commuted (pos g) (pos m)) ∙ product_assoc (pos m) (pos g) y in
    let floor = product_order (pos m) (pos g *ℤ y) (e +ℤ pos k) some-m under in
    let step : ((e +ℤ pos k) +ℤ pos 1) ≤ℤ (pos g *ℤ (y +ℤ pos 1)) = omega (arith, ints, over) in
    let next = product_order (pos m) ((e +ℤ pos k) +ℤ pos 1) (pos g *ℤ (y +ℤ pos 1)) some-m step in
    let after : pos m *ℤ (pos g *ℤ (y +ℤ pos 1)) ≡ (pos g *ℤ Y) +ℤ pos (m * g) =
    ap (λ z. pos m *ℤ z) (product-sum (pos g) y (pos 1)) ∙ product-sum (pos m) (pos g *ℤ y) (pos g *ℤ pos 1)
    ∙ omega (arith, ints, turn) in
    let one = product-sum (pos m) e (pos k) in
    let two = product-sum (pos m) (e +ℤ pos k) (pos 1) in
    let most = mul-lt-mul_of_pos_left {k = m} high some in
    let least : m * (j + 2 * c) ≤ m * (2 * k) = mul-le-mul_left m low in
    let unit : pos g *ℤ (n +ℤ pos m) ≡ (n *ℤ pos g) +ℤ pos (m * g) = omega (arith, ints, product-sum (pos g) n (pos m), commuted (pos g) n) in
    let last : pos g *ℤ (Y +ℤ pos m) ≡ (pos g *ℤ Y) +ℤ pos (m * g) = omega (arith, ints, product-sum (pos g) Y (pos m)) in
    within_one n (pos m) y
    (product_cancel (pos g) Y (n +ℤ pos m) (omega (arith, ints)) (omega (arith, ints, unit, turn, floor, one, h.low, most)))
    (product_cancel (pos g) n (Y +ℤ pos m) (omega (arith, ints))
    (omega (arith, ints, last, after, next, one, two, h.high, least, some, commuted (pos g) n)))

-- where nothing is lost, there are no guard bits and nothing is added
pub exact : (m : ℕ) (n e : ℤ) → IsNear m (n *ℤ pos 1) e 0 0 → pos m *ℤ e ≡ n
exact m n e h = omega (arith, ints, h.low, h.high)
