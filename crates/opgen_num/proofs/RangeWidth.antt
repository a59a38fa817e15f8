-- The width of a range, in numbers, is the least one.
use Rattle.std.proofs.Common.{◌≡◌, ℕ, zero, suc, ◌/◌, ◌^◌, ◌<◌, ◌≤◌, max, arith, ◌+◌, ◌-◌, ap}
use Rattle.std.specs.Prelude.{ℤ, pos, negsuc, ◌≤ℤ◌, unsigned_abs, neg_ℤ}
use Rattle.std.proofs.Math.Nat.{two-pow-succ}
use Rattle.std.proofs.lemmas.Int.{ints}
use Rattle.std.proofs.lemmas.Nat.{pow_pos}
use Rattle.opgen_num.specs.Formats.{digits_within, digit_count, range_width, IsLeastWidth}
use Rattle.opgen_num.proofs.Widths.{unsigned_width, signed_width}

digits-holds : (most n : ℕ) → n ≤ most → n < 2 ^ digits_within most n
digits-holds zero n h = omega arith
digits-holds (suc most) zero h = omega arith
digits-holds (suc most) (suc n) h =
    let half : suc n / 2 < 2 ^ digits_within most (suc n / 2) = digits-holds most (suc n / 2) (omega arith) in
    omega (arith, two-pow-succ (digits_within most (suc n / 2)))

digits-least : (most n : ℕ) → n ≤ most → (g : ℕ) → n < 2 ^ g → digits_within most n ≤ g
digits-least zero n h g l = omega arith
digits-least (suc most) zero h g l = omega arith
digits-least (suc most) (suc n) h zero l = absurd (omega arith)
digits-least (suc most) (suc n) h (suc g) l =
    let half : digits_within most (suc n / 2) ≤ g = digits-least most (suc n / 2) (omega arith) g (omega (arith, two-pow-succ g)) in
    omega arith

pub count-holds : (n : ℕ) → n < 2 ^ digit_count n
count-holds n = digits-holds n n (omega arith)

pub count-least : (n g : ℕ) → n < 2 ^ g → digit_count n ≤ g
count-least n = digits-least n n (omega arith)

pub digits-some : (n : ℕ) → 1 ≤ n → 1 ≤ digit_count n
digits-some n h = by (digit_count n) (count-holds n)
  where
    by : (d : ℕ) → n < 2 ^ d → 1 ≤ d
    by zero l = absurd (omega (arith, l, h))
    by (suc d) l = omega arith

pub range_width-least : (lo hi : ℤ) → lo ≤ℤ hi → IsLeastWidth lo hi (range_width lo hi)
range_width-least (pos a) hi h = unsigned_width (pos a) hi (digit_count (unsigned_abs hi)) (omega (arith, ints)) h
    (count-holds (unsigned_abs hi)) (count-least (unsigned_abs hi))
range_width-least (negsuc a) (pos b) h =
    signed_width (negsuc a) (pos b) (max a b) (digit_count (max a b)) h (omega (arith, ints)) (omega (arith, ints)) (omega (arith, ints))
    (λ n l g. omega (arith, ints)) (count-holds (max a b)) (count-least (max a b))
range_width-least (negsuc a) (negsuc b) h =
    signed_width (negsuc a) (negsuc b) a (digit_count a) h (omega (arith, ints)) (omega (arith, ints)) (omega (arith, ints))
    (λ n l g. omega (arith, ints)) (count-holds a) (count-least a)

pub least_width-unique : (lo hi : ℤ) (v w : ℕ) → IsLeastWidth lo hi v → IsLeastWidth lo hi w → v ≡ w
least_width-unique lo hi v w f g =
    let low : v ≤ w = f.1 w g.0 in
    let high : w ≤ v = g.1 v f.0 in
    omega arith

half : (w : ℕ) → 2 ≤ w → 2 ^ w ≡ 2 ^ (w - 1) + 2 ^ (w - 1)
half zero h = absurd (omega (arith, h))
half (suc v) h = let e : suc v - 1 ≡ v = omega arith in omega (arith, two-pow-succ v, ap (λ n. 2 ^ n) e)

-- the range is no longer than the words of its width are many
pub width-span : (below above : ℕ) → below + above < 2 ^ range_width (neg_ℤ (pos below)) (pos above)
width-span zero above =
    let h = (range_width-least (pos 0) (pos above) (omega (arith, ints))).0 in
    omega (arith, ints, h.2.1, pow_pos (range_width (pos 0) (pos above)))
width-span (suc n) above =
    let h = (range_width-least (negsuc n) (pos above) (omega (arith, ints))).0 in
    let w = range_width (negsuc n) (pos above) in
    omega (arith, ints, h.1.0, h.2.1, half w h.0, pow_pos (w - 1))
