-- Nearest whole numbers.
use Rattle.std.proofs.Common.{◌≡◌, ℕ, ◌+◌, ◌*◌, ◌/◌, ◌<◌, ◌≤◌, ap, arith}
use Rattle.std.specs.Prelude.{ℤ, pos, negsuc, ◌+ℤ◌, ◌-ℤ◌, ◌*ℤ◌, ◌<ℤ◌, ◌≤ℤ◌, unsigned_abs}
use Rattle.std.specs.Int.{int_div_euclid}
use Rattle.std.proofs.Math.Nat.{mul-le-mul_left}
use Rattle.std.proofs.lemmas.Int.{ints}
use Rattle.std.proofs.lemmas.Nat.{div-add-mod'}
use Rattle.opgen_num.proofs.Floors.{one_floor}
use Rattle.opgen_num.proofs.Integers.{product-sum, product_assoc, product_cancel}
use Rattle.opgen_num.proofs.Rounded.{floor_is, half_away}
use Rattle.opgen_num.specs.Rounding.{nearest}

-- less than half a unit below a fraction, or half a unit or less above it
pub nearest-floor : (n m : ℤ) → pos 0 <ℤ m
    → ((pos 2 *ℤ (m *ℤ nearest n m)) ≤ℤ ((pos 2 *ℤ n) +ℤ m)) × (((pos 2 *ℤ n) -ℤ m) <ℤ (pos 2 *ℤ (m *ℤ nearest n m)))
nearest-floor n m h = half_away n m (nearest n m) (floor_is ((pos 2 *ℤ n) +ℤ m) (pos 2 *ℤ m) (omega (arith, ints, h)))

-- a whole number is its own nearest
pub nearest-whole : (n m y : ℤ) → pos 0 <ℤ m → n ≡ m *ℤ y → nearest n m ≡ y
nearest-whole n m y h e =
    let twice = pos 2 *ℤ m in
    let some : pos 0 <ℤ twice = omega (arith, ints, h) in
    let same = product_assoc (pos 2) m y in
    let more = product_assoc (pos 2) m (y +ℤ pos 1) in
    let split = ap (λ z. pos 2 *ℤ z) (product-sum m y (pos 1)) in
    let apart = product-sum (pos 2) (m *ℤ y) (m *ℤ pos 1) in
    one_floor twice some ((pos 2 *ℤ n) +ℤ m) (nearest n m) y (floor_is ((pos 2 *ℤ n) +ℤ m) twice some)
    (omega (arith, ints, h, e, same), omega (arith, ints, h, e, same, more, split, apart))

-- a nearest number is no greater than what its floor is taken of
pub nearest-small : (n m : ℤ) (bound : ℕ) → pos 0 <ℤ m → 2 * unsigned_abs n + unsigned_abs m < bound → unsigned_abs (nearest n m) < bound
nearest-small n m bound h small = quotient ((pos 2 *ℤ n) +ℤ m) (pos 2 *ℤ m) (omega (arith, ints, h)) (omega (arith, ints, h, small))
  where
    quotient : (a b : ℤ) → pos 0 <ℤ b → unsigned_abs a < bound → unsigned_abs (int_div_euclid a b) < bound
    quotient (pos a) (pos b) some below =
        let least : a / b * 1 ≤ a / b * b = mul-le-mul_left (a / b) (omega (arith, ints, some)) in
        omega (arith, ints, below, least, div-add-mod' a b)
    quotient (negsuc a) (pos b) some below =
        let least : a / b * 1 ≤ a / b * b = mul-le-mul_left (a / b) (omega (arith, ints, some)) in
        omega (arith, ints, below, least, div-add-mod' a b)
    quotient a (negsuc b) some below = absurd (omega (arith, ints, some))

-- what is no greater than a whole number has a nearest number no greater than it, and likewise below
pub nearest-at_most : (n m y : ℤ) → pos 0 <ℤ m → n ≤ℤ (m *ℤ y) → nearest n m ≤ℤ y
nearest-at_most n m y h most =
    let (high, _) = nearest-floor n m h in
    let less : nearest n m <ℤ (y +ℤ pos 1) = product_cancel m (nearest n m) (y +ℤ pos 1) (omega (arith, ints, h))
    (omega (arith, ints, high, most, h, product-sum m y (pos 1))) in
    omega (arith, ints, less)

pub nearest-at_least : (n m y : ℤ) → pos 0 <ℤ m → (m *ℤ y) ≤ℤ n → y ≤ℤ nearest n m
nearest-at_least n m y h least =
    let (_, low) = nearest-floor n m h in
    let more : y <ℤ (nearest n m +ℤ pos 1) = product_cancel m y (nearest n m +ℤ pos 1) (omega (arith, ints, h))
    (omega (arith, ints, low, least, h, product-sum m (nearest n m) (pos 1))) in
    omega (arith, ints, more)

-- and the greater fraction has no lesser nearest number
pub nearest-order : (n k m : ℤ) → pos 0 <ℤ m → n ≤ℤ k → nearest n m ≤ℤ nearest k m
nearest-order n k m h order =
    let (high, _) = nearest-floor n m h in
    let (_, low) = nearest-floor k m h in
    let less : nearest n m <ℤ (nearest k m +ℤ pos 1) = product_cancel m (nearest n m) (nearest k m +ℤ pos 1) (omega (arith, ints, h))
    (omega (arith, ints, high, low, order, h, product-sum m (nearest k m) (pos 1))) in
    omega (arith, ints, less)
