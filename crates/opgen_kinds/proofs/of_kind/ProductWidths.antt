-- How far products go, and their width.
use Rattle.std.proofs.Common.{◌≡◌, ℕ, zero, suc, ◌*◌, ap, ◌∙◌, arith, ◌+◌, ◌≤◌, ◌<◌, max, sym, ⊎_elim, ◌-◌, ◌^◌, lt_of_mul-lt-mul_right, mul-lt-mul_of_pos_right, min, Bool, true, false, nat_lt, refl}
use Rattle.std.proofs.lemmas.Bool.{cases_lt, lt-ltb}
use Rattle.std.proofs.lemmas.Int.{ints}
use Rattle.std.proofs.lemmas.Nat.{pow_pos, pow-add}
use Rattle.std.proofs.Math.Nat.{mul-le-mul, mul-le-mul_right, mul-le-mul_left}
use Rattle.std.specs.Int.{div_ceil}
use Rattle.std.specs.Prelude.{pos, neg_ℤ, ◌*ℤ◌, ℤ, negsuc, ◌≤ℤ◌, unsigned_abs}
use Rattle.opgen_num.proofs.BitLength.{power_cancel, power_order}
use Rattle.opgen_num.proofs.RangeWidth.{count-holds, count-least, digits-some}
use Rattle.opgen_num.specs.Formats.{digit_count, range_width, fewest_bits}
use Rattle.opgen_kinds.specs.declared.product.Product.{Product}
use Rattle.opgen_kinds.specs.Product.{exact_product, product_shift, product_reach, product_places, IsProduct, ProductsHaveWidth, product_format}
use Rattle.opgen_ports.specs.Reaches.{reach_of, reach_with, in_units, width_of, places_down, up, down, places_up}
use Rattle.opgen_ports.specs.Spans.{IsOf, Spans}
use Rattle.opgen_ports.proofs.Bounds.{products}
use Rattle.opgen_ports.proofs.Magnitudes.{product_within, holds_within}
use Rattle.opgen_ports.proofs.Reached.{product_span, neg-left, neg-both, IsWithinReach, neg-right, held-within, within-held, low_end, high_end, least_end, greatest_end, ceiling, lowered_units}

pub neg-neg : (n k : ℕ) → neg_ℤ (pos n) *ℤ neg_ℤ (pos k) ≡ pos (n * k)
neg-neg n zero = neg-left n 0 ∙ omega (arith, ints)
neg-neg n (suc k) = neg-both n k ∙ ap (λ j. pos (n * j)) (omega arith)

-- the ends of a range are in it
lower_end : (below above : ℕ) → IsWithinReach below above (neg_ℤ (pos below))
lower_end below above = (omega (arith, ints), omega (arith, ints))

upper_end : (below above : ℕ) → IsWithinReach below above (pos above)
upper_end below above = (omega (arith, ints), omega (arith, ints))

-- the numbers whose product is the least, and the greatest
module _ (below above under over : ℕ) where
  abbrev IsProductOf : ℤ → Type 0
  IsProductOf n = (x : ℤ × ℤ) × (IsWithinReach below above x.0 × IsWithinReach under over x.1) × (x.0 *ℤ x.1 ≡ n)

  pub product_lowest : IsProductOf (neg_ℤ (pos (max (below * over) (above * under))))
  product_lowest =
      ⊎_elim
      (λ (lt : below * over < above * under).
      let most : max (below * over) (above * under) ≡ above * under = omega arith in
      ((pos above, neg_ℤ (pos under)), (upper_end below above, lower_end under over), neg-right above under ∙ ap (λ n. neg_ℤ (pos n)) (sym most)))
      (λ (ge : above * under ≤ below * over).
      let most : max (below * over) (above * under) ≡ below * over = omega arith in
      ((neg_ℤ (pos below), pos over), (lower_end below above, upper_end under over), neg-left below over ∙ ap (λ n. neg_ℤ (pos n)) (sym most)))
      (cases_lt (below * over) (above * under))

  pub product_highest : IsProductOf (pos (max (above * over) (below * under)))
  product_highest =
      ⊎_elim
      (λ (lt : above * over < below * under).
      let most : max (above * over) (below * under) ≡ below * under = omega arith in
      ((neg_ℤ (pos below), neg_ℤ (pos under)), (lower_end below above, lower_end under over), neg-neg below under ∙ ap pos (sym most)))
      (λ (ge : below * under ≤ above * over).
      let most : max (above * over) (below * under) ≡ above * over = omega arith in
      ((pos above, pos over), (upper_end below above, upper_end under over), ap pos (sym most)))
      (cases_lt (above * over) (below * under))

unit : (n : ℕ) → 1 * n ≡ n
unit n = omega arith

pub products_span : (p : Product) → Spans (ℤ × ℤ) (λ x. IsOf p.a x.0 × IsOf p.b x.1) (λ x. exact_product p x.0 x.1) (product_places p)
products_span p =
    let a = reach_of p.a in
    let b = reach_of p.b in
    let below = (product_reach p).below in
    let above = (product_reach p).above in
    let scale = up (product_shift p) in
    let d = down (product_shift p) in
    let some : 0 < d = pow_pos (places_down (product_shift p)) in
    let within = λ (x : ℤ × ℤ) (of : IsOf p.a x.0 × IsOf p.b x.1).
    product_span a.below a.above b.below b.above x.0 x.1 (held-within p.a.signed p.a.width x.0 of.0)
    (held-within p.b.signed p.b.width x.1 of.1) in
    let lowest = product_lowest a.below a.above b.below b.above in
    let highest = product_highest a.below a.above b.below b.above in
    let of : (x : ℤ × ℤ) → IsWithinReach a.below a.above x.0 × IsWithinReach b.below b.above x.1 → IsOf p.a x.0 × IsOf p.b x.1 = λ x h.
    (within-held p.a.signed p.a.width x.0 h.0, within-held p.b.signed p.b.width x.1 h.1) in
    rw (unit d) (record {
      low = λ x h. low_end (x.0 *ℤ x.1) below above scale d some ((within x h).0);
      high = λ x h. high_end (x.0 *ℤ x.1) below above scale d some ((within x h).1);
      least = (lowest.0, of lowest.0 lowest.1, least_end (lowest.0.0 *ℤ lowest.0.1) below above scale d some lowest.2);
      greatest = (highest.0, of highest.0 highest.1, greatest_end (highest.0.0 *ℤ highest.0.1) below above scale d some highest.2);
    })

-- the digits of a number that is shifted up
shifted-count : (n s : ℕ) → 1 ≤ n → digit_count (n * 2 ^ s) ≡ digit_count n + s
shifted-count n s some =
    let g = digit_count (n * 2 ^ s) in
    let power : 2 ^ (digit_count n + s) ≡ 2 ^ digit_count n * 2 ^ s = pow-add 2 (digit_count n) s in
    let most : g ≤ digit_count n + s = count-least (n * 2 ^ s) (digit_count n + s)
    (omega (arith, power, mul-lt-mul_of_pos_right (count-holds n) (pow_pos s))) in
    let one : 1 * 2 ^ s ≤ n * 2 ^ s = mul-le-mul_right (2 ^ s) some in
    let holds = count-holds (n * 2 ^ s) in
    let few : s < g = power_cancel s g (n * 2 ^ s) (omega (arith, one)) holds in
    let split : 2 ^ g ≡ 2 ^ (g - s) * 2 ^ s = ap (λ k. 2 ^ k) (omega (arith, few)) ∙ pow-add 2 (g - s) s in
    let below : n < 2 ^ (g - s) = lt_of_mul-lt-mul_right (2 ^ s) (omega (arith, holds, split)) in
    omega (arith, most, few, count-least n (g - s) below)

-- the width of a range that goes at least as far above 0 as below
upper-width : (below above : ℕ) → 1 ≤ above → below ≤ above → range_width (neg_ℤ (pos below)) (pos above) ≡ digit_count above + min 1 below
upper-width zero above some far = omega (arith, digits-some above some)
upper-width (suc b) above some far =
    let most : max b above ≡ above = omega (arith, far) in
    rw most (omega (arith, digits-some above some))

shifted-sign : (n s : ℕ) → min 1 (n * 2 ^ s) ≡ min 1 n
shifted-sign zero s = omega arith
shifted-sign (suc n) s =
    let one : 1 * 2 ^ s ≤ suc n * 2 ^ s = mul-le-mul_right (2 ^ s) (omega arith) in
    omega (arith, one, pow_pos s)

pub shifted-width : (below above s : ℕ) → 1 ≤ above → below ≤ above → range_width (neg_ℤ (pos (below * 2 ^ s))) (pos (above * 2 ^ s))
    ≡ range_width (neg_ℤ (pos below)) (pos above) + s
shifted-width below above s some far =
    let one : 1 * 2 ^ s ≤ above * 2 ^ s = mul-le-mul_right (2 ^ s) some in
    let shifted = upper-width (below * 2 ^ s) (above * 2 ^ s) (omega (arith, one, pow_pos s)) (mul-le-mul_right (2 ^ s) far) in
    let plain = upper-width below above some far in
    omega (arith, shifted, plain, shifted-count above s some, shifted-sign below s)

-- a product's range goes at least as far above 0 as below
pub record IsUpper (below above bits : ℕ) : Type 0 where
  pub some : 1 ≤ above
  pub far : below ≤ above
  pub width : range_width (neg_ℤ (pos below)) (pos above) ≤ bits
  pub small : above ≤ 2 ^ bits

unsigned_upper : (v w : ℕ) → 1 ≤ v → 1 ≤ w → IsUpper (max (0 * (2 ^ w - 1)) ((2 ^ v - 1) * 0)) (max ((2 ^ v - 1) * (2 ^ w - 1)) (0 * 0))
    (v + w)
unsigned_upper v w one two =
    let a = 2 ^ v - 1 in
    let b = 2 ^ w - 1 in
    let some_a : 1 ≤ a = omega (arith, power_order 1 v one) in
    let some_b : 1 ≤ b = omega (arith, power_order 1 w two) in
    let some : 1 * 1 ≤ a * b = mul-le-mul {n₁ = 1} {m₁ = 1} {n₂ = a} {m₂ = b} some_a some_b in
    let low : max (0 * b) (a * 0) ≡ 0 = omega arith in
    let high : max (a * b) (0 * 0) ≡ a * b = omega arith in
    let power : 2 ^ (v + w) ≡ 2 ^ v * 2 ^ w = pow-add 2 v w in
    let first : a * b ≤ a * 2 ^ w = mul-le-mul_left a (omega arith) in
    let second : (a + 1) * 2 ^ w ≤ 2 ^ v * 2 ^ w = mul-le-mul {n₁ = a + 1} {m₁ = 2 ^ w} {n₂ = 2 ^ v} {m₂ = 2 ^ w} (omega (arith, pow_pos v))
    (omega arith) in
    let below : a * b < 2 ^ (v + w) = omega (arith, first, second, power, pow_pos w) in
    rw (low, high) (record {
      some = omega (arith, some);
      far = omega arith;
      width = omega (arith, upper-width 0 (a * b) (omega (arith, some)) (omega arith), count-least (a * b) (v + w) below);
      small = omega (arith, below);
    })

signed_upper : (v w : ℕ) → 2 ≤ v → 2 ≤ w → IsUpper (max (2 ^ (v - 1) * (2 ^ (w - 1) - 1)) ((2 ^ (v - 1) - 1) * 2 ^ (w - 1)))
    (max ((2 ^ (v - 1) - 1) * (2 ^ (w - 1) - 1)) (2 ^ (v - 1) * 2 ^ (w - 1))) (v + w)
signed_upper v w one two =
    let a = 2 ^ (v - 1) in
    let b = 2 ^ (w - 1) in
    let some : 1 * 1 ≤ a * b = mul-le-mul {n₁ = 1} {m₁ = 1} {n₂ = a} {m₂ = b} (omega (arith, pow_pos (v - 1)))
    (omega (arith, pow_pos (w - 1))) in
    let left : a * (b - 1) ≤ a * b = mul-le-mul_left a (omega arith) in
    let right : (a - 1) * b ≤ a * b = mul-le-mul_right b (omega arith) in
    let both : (a - 1) * (b - 1) ≤ a * b = mul-le-mul {n₁ = a - 1} {m₁ = b - 1} {n₂ = a} {m₂ = b} (omega arith) (omega arith) in
    let high : max ((a - 1) * (b - 1)) (a * b) ≡ a * b = omega (arith, both) in
    let power : 2 ^ (v - 1 + (w - 1)) ≡ a * b = pow-add 2 (v - 1) (w - 1) in
    let less : 2 ^ (v - 1 + (w - 1)) < 2 ^ (v + w - 1) = omega
    (arith, power_order (v - 1 + (w - 1) + 1) (v + w - 1) (omega arith), pow-add 2 (v - 1 + (w - 1)) 1, pow_pos (v - 1 + (w - 1))) in
    let far : max (a * (b - 1)) ((a - 1) * b) ≤ a * b = omega (arith, left, right) in
    rw high (record {
      some = omega (arith, some);
      far = far;
      width = omega (
        arith,
        upper-width (max (a * (b - 1)) ((a - 1) * b)) (a * b) (omega (arith, some)) far,
        count-least (a * b) (v + w - 1) (omega (arith, power, less)),
      );
      small = omega (arith, power, less, power_order (v + w - 1) (v + w) (omega arith));
    })

pub product_upper : (p : Product) → IsProduct p → IsUpper (product_reach p).below (product_reach p).above (p.a.width + p.b.width)
product_upper p fits = go p.a.signed p.b.signed fits.alike fits.a.fewest fits.b.fewest
  where
    go : (s t : Bool) → s ≡ t → fewest_bits s ≤ p.a.width → fewest_bits t ≤ p.b.width
        → IsUpper
        (max ((reach_with s p.a.width).below * (reach_with t p.b.width).above)
        ((reach_with s p.a.width).above * (reach_with t p.b.width).below))
        (max ((reach_with s p.a.width).above * (reach_with t p.b.width).above)
        ((reach_with s p.a.width).below * (reach_with t p.b.width).below))
        (p.a.width + p.b.width)
    go true true e few more = signed_upper p.a.width p.b.width few more
    go false false e few more = unsigned_upper p.a.width p.b.width few more
    go true false e few more = cc
    go false true e few more = cc

-- In units of the output's last place: a number that is shifted up,
raised-units : (n k : ℕ) → in_units n (pos k) (pos 1) ≡ n * 2 ^ k
raised-units n k =
    let (low, high) = ceiling (n * 2 ^ k) 1 (omega arith) in
    omega (arith, low, high)

units-sign : (n : ℕ) (s : ℤ) → nat_lt 0 (in_units n s (pos 1)) ≡ nat_lt 0 n
units-sign n s =
    let d = 1 * 2 ^ places_down s in
    let some : 0 < d = omega (arith, pow_pos (places_down s)) in
    let (low, high) = ceiling (n * up s) d some in
    go n (div_ceil (n * up s) d) (up s) d (pow_pos (places_up s)) low high
  where
    go : (n c u d : ℕ) → 0 < u → n * u ≤ d * c → d * c < n * u + d → nat_lt 0 c ≡ nat_lt 0 n
    go zero zero u d some low high = refl
    go zero (suc c) u d some low high =
        let one : d * 1 ≤ d * suc c = mul-le-mul_left d (omega arith) in
        absurd (omega (arith, one, high))
    go (suc n) zero u d some low high =
        let one : 1 * u ≤ suc n * u = mul-le-mul_right u (omega arith) in
        absurd (omega (arith, one, low, some))
    go (suc n) (suc c) u d some low high = lt-ltb 0 (suc c) (omega arith) ∙ sym (lt-ltb 0 (suc n) (omega arith))

pub shifted_up-width : (p : Product) → IsProduct p → pos 0 ≤ℤ product_shift p → width_of (product_places p)
    ≡ width_of (product_reach p) + places_up (product_shift p)
shifted_up-width p fits h = go (product_shift p) h
  where
    below : ℕ
    below = (product_reach p).below

    above : ℕ
    above = (product_reach p).above

    go : (s : ℤ) → pos 0 ≤ℤ s → range_width (neg_ℤ (pos (in_units below s (pos 1)))) (pos (in_units above s (pos 1)))
        ≡ range_width (neg_ℤ (pos below)) (pos above) + places_up s
    go (pos k) h =
        let upper = product_upper p fits in
        rw (raised-units below k, raised-units above k) (shifted-width below above k upper.some upper.far)
    go (negsuc k) h = absurd (omega (arith, ints))

-- an output is signed where the plain product is
pub product-sign : (p : Product) → nat_lt 0 (product_places p).below ≡ nat_lt 0 (product_reach p).below
product-sign p = units-sign (product_reach p).below (product_shift p)

pub products_width : ProductsHaveWidth
products_width p fits =
    let upper = product_upper p fits in
    let few : p.a.width + p.b.width ≤ 96 = omega (arith, fits.a.most, fits.b.most) in
    let most = power_order (p.a.width + p.b.width) 96 few in
    record {
      plain = upper.width;
      not_up = λ h. (
        omega (arith, lowered_units (product_reach p).below (product_shift p) h, upper.far, upper.small, most),
        omega (arith, lowered_units (product_reach p).above (product_shift p) h, upper.small, most),
      );
      shifted_up = λ h. shifted_up-width p fits h;
    }

-- a product that is shifted up has no more bits than its output
pub product_room : (p : Product) (a b : ℤ) → IsProduct p → IsOf p.a a → IsOf p.b b → (product_format p).width ≤ 96
    → unsigned_abs (a *ℤ b) * 2 ^ places_up (product_shift p) ≤ 2 ^ 96
product_room p a b fits of_a of_b narrow = go (product_shift p) (λ h. shifted_up-width p fits h)
  where
    upper : IsUpper (product_reach p).below (product_reach p).above (p.a.width + p.b.width)
    upper = product_upper p fits

    above : ℕ
    above = (product_reach p).above

    within : unsigned_abs (a *ℤ b) ≤ above
    within =
        let (low, high) = product_span (reach_of p.a).below (reach_of p.a).above (reach_of p.b).below (reach_of p.b).above a b
        (held-within p.a.signed p.a.width a of_a) (held-within p.b.signed p.b.width b of_b) in
        omega (arith, ints, low, high, upper.far)

    go : (s : ℤ) → (pos 0 ≤ℤ s → (product_format p).width ≡ width_of (product_reach p) + places_up s)
        → unsigned_abs (a *ℤ b) * 2 ^ places_up s ≤ 2 ^ 96
    go (pos k) wide =
        let bits = digit_count above in
        let plain = upper-width (product_reach p).below above upper.some upper.far in
        let few : bits + k ≤ 96 = omega (arith, wide (omega (arith, ints)), narrow, plain) in
        let all = products (unsigned_abs (a *ℤ b)) (2 ^ k) bits k (omega (arith, within, count-holds above)) (omega arith) in
        omega (arith, all, power_order (bits + k) 96 few)
    go (negsuc k) wide = omega (
      arith,
      within,
      upper.small,
      power_order (p.a.width + p.b.width) 96 (omega (
        arith,
        fits.a.most,
        fits.b.most,
      )),
    )

-- the range of the plain product
pub reach_small : (p : Product) (n : ℕ) → IsProduct p → n ≤ 2 ^ (p.a.width + p.b.width) → n ≤ 2 ^ 120
reach_small p n fits small = omega (arith, small, power_order (p.a.width + p.b.width) 120 (omega (arith, fits.a.most, fits.b.most)))

pub not_up_bound : (p : Product) (n : ℕ) → IsProduct p → n ≤ 2 ^ (p.a.width + p.b.width) → product_shift p ≤ℤ pos 0
    → n * up (product_shift p) ≤ 2 ^ 119
not_up_bound p n fits small high = go (product_shift p) high
  where
    few : n ≤ 2 ^ 119
    few = omega (arith, small, power_order (p.a.width + p.b.width) 119 (omega (arith, fits.a.most, fits.b.most)))

    go : (s : ℤ) → s ≤ℤ pos 0 → n * up s ≤ 2 ^ 119
    go (pos zero) h = omega (arith, few)
    go (pos (suc k)) h = absurd (omega (arith, ints))
    go (negsuc k) h = omega (arith, few)

pub product_small : (p : Product) (a b : ℤ) → IsProduct p → IsOf p.a a → IsOf p.b b → unsigned_abs (a *ℤ b) ≤ 2 ^ 96
product_small p a b fits of_a of_b =
    let all = product_within a b p.a.width p.b.width (holds_within p.a.signed p.a.width a of_a)
    (holds_within p.b.signed p.b.width b of_b) in
    omega (arith, all, power_order (p.a.width + p.b.width) 96 (omega (arith, fits.a.most, fits.b.most)))
