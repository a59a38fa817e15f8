-- Bounds of products and widths.
use Rattle.std.proofs.Common.{◌≡◌, ℕ, ◌+◌, ◌*◌, ◌^◌, ◌≤◌, arith, ◌<◌, suc, ap, ◌/◌, ◌%◌, min, zero, max, refl}
use Rattle.std.proofs.lemmas.Int.{ints}
use Rattle.std.proofs.lemmas.Nat.{pow-add}
use Rattle.std.proofs.Math.Nat.{mul-le-mul_left, mul-le-mul_right, two-pow-succ, div-le_self}
use Rattle.std.specs.Prelude.{ℤ, pos, negsuc, ◌≤ℤ◌, unsigned_abs, neg_ℤ}
use Rattle.opgen_num.proofs.BitLength.{power_order}
use Rattle.opgen_num.proofs.RangeWidth.{count-holds, count-least}
use Rattle.opgen_num.specs.Formats.{digit_count, range_width}
use Rattle.opgen_ports.specs.Reaches.{places_up, places_down, up}

pub products : (a b i j : ℕ) → a ≤ 2 ^ i → b ≤ 2 ^ j → a * b ≤ 2 ^ (i + j)
products a b i j first second =
    let left : a * b ≤ 2 ^ i * b = mul-le-mul_right b first in
    let right : 2 ^ i * b ≤ 2 ^ i * 2 ^ j = mul-le-mul_left (2 ^ i) second in
    let power : 2 ^ (i + j) ≡ 2 ^ i * 2 ^ j = pow-add 2 i j in
    omega (arith, left, right, power)

pub some_product : (a b : ℕ) → 1 ≤ a → 1 ≤ b → 0 < a * b
some_product a b first second =
    let step : a * 1 ≤ a * b = mul-le-mul_left a second in
    omega (arith, step, first)

pub few_up : (k : ℕ) (s : ℤ) → s ≤ℤ pos k → places_up s ≤ k
few_up k (pos n) h = omega (arith, ints)
few_up k (negsuc n) h = omega arith

pub few_down : (k : ℕ) (s : ℤ) → negsuc k ≤ℤ s → places_down s ≤ k + 1
few_down k (pos n) h = omega arith
few_down k (negsuc n) h = omega (arith, ints)

-- a shift is one way
pub one_way : (s : ℤ) → 1 ≤ places_down s → places_up s ≡ 0
one_way (pos n) h = absurd (omega (arith, h))
one_way (negsuc n) h = refl

pub some_units : (den : ℤ) → pos 1 ≤ℤ den → 1 ≤ unsigned_abs den
some_units (pos n) h = omega (arith, ints)
some_units (negsuc n) h = absurd (omega (arith, ints))

pub few_units : (k : ℕ) (den : ℤ) → pos 1 ≤ℤ den → den ≤ℤ pos k → unsigned_abs den ≤ k
few_units k (pos n) low high = omega (arith, ints)
few_units k (negsuc n) low high = absurd (omega (arith, ints))

-- a sum of inputs of a width, each times a coefficient
pub reach_bound : (r f below above w : ℕ) → r ≤ 2 ^ 38 → f ≤ 2 ^ 38 → below ≤ 2 ^ w → above ≤ 2 ^ w → r * below + f * above ≤ 2 ^ (w + 39)
reach_bound r f below above w few more low high =
    let first = products r below 38 w few low in
    let second = products f above 38 w more high in
    let power : 2 ^ (w + 39) ≡ 2 ^ suc (38 + w) = ap (λ k. 2 ^ k) (omega arith) in
    omega (arith, first, second, power, two-pow-succ (38 + w))

-- shifted up, where there is room
pub room_bound : (n w : ℕ) (s : ℤ) → n ≤ 2 ^ (w + 39) → w + places_up s ≤ 80 → n * up s ≤ 2 ^ 119
room_bound n w s small room =
    let all = products n (up s) (w + 39) (places_up s) small (power_order (places_up s) (places_up s) (omega arith)) in
    omega (arith, all, power_order (w + 39 + places_up s) 119 (omega arith))

-- a number of so many bits, shifted up
pub shifted : (n i k : ℕ) (s : ℤ) → n ≤ 2 ^ i → s ≤ℤ pos k → n * up s ≤ 2 ^ (i + k)
shifted n i k s small high = products n (up s) i k small (power_order (places_up s) k (few_up k s high))

pub rounded : (x y : ℕ) → 0 < y → x / y + min 1 (x % y) ≤ x + 1
rounded x y h = omega (arith, div-le_self x y)

pub guard_is : (n g : ℕ) → n < 2 ^ g → ((h : ℕ) → n < 2 ^ h → g ≤ h) → g ≡ digit_count n
guard_is n g holds least =
    let low : g ≤ digit_count n = least (digit_count n) (count-holds n) in
    let high : digit_count n ≤ g = count-least n g holds in
    omega (arith, low, high)

pub width_bound : (below above : ℕ) → below ≤ 2 ^ 120 → above ≤ 2 ^ 120 → range_width (neg_ℤ (pos below)) (pos above) ≤ 130
width_bound zero above low high =
    let few = count-least above 121 (omega arith) in
    omega (arith, few)
width_bound (suc a) above low high =
    let few = count-least (max a above) 121 (omega arith) in
    omega (arith, few)
