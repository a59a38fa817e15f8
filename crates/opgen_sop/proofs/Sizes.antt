-- Bounds of the numbers of terms.
use Rattle.std.proofs.Common.{◌≡◌, ℕ, zero, suc, ◌+◌, ◌-◌, ◌*◌, ◌^◌, ◌≤◌, Bool, true, false, max, pow-add, ap, ◌∙◌, if◌then◌else◌, arith}
use Rattle.std.specs.Prelude.{ℤ, pos, negsuc, neg_ℤ, ◌+ℤ◌, ◌≤ℤ◌, unsigned_abs}
use Rattle.std.proofs.Math.Nat.{two-pow-succ, mul-le-mul_left, mul-le-mul_right}
use Rattle.std.proofs.lemmas.Int.{ints}
use Rattle.std.proofs.lemmas.Nat.{mul-le, pow_pos}
use Rattle.opgen_num.specs.declared.format.Format.{Format}
use Rattle.opgen_num.proofs.BitLength.{power_order}
use Rattle.opgen_terms.specs.declared.sop.Sop.{Sop}
use Rattle.opgen_terms.specs.declared.sop.Times.{Times}
use Rattle.opgen_terms.specs.Sop.{Term, IsSop, size_of, format_of, times_term, height, depth}
use Rattle.opgen_ports.specs.Reaches.{reach_with, places_up, places_down}
use Rattle.opgen_ports.proofs.Bounds.{some_units}
use Rattle.opgen_partial.specs.declared.pairs.Placing.{Placing}
use Rattle.opgen_partial.specs.declared.pairs.Products.{Products}
use Rattle.opgen_partial.specs.Recipe.{sign_correction, correction}
use Rattle.opgen_sop.specs.Sizes.{finer}
use Rattle.opgen_sop.specs.Small.{IsSmall}

pub down-few : (s : ℤ) (most : ℕ) → neg_ℤ (pos most) ≤ℤ s → places_down s ≤ most
down-few (pos n) most h = omega arith
down-few (negsuc n) most h = omega (arith, ints, h)

signs-size : (s t : Bool) (m n : ℕ) → 1 ≤ m → 1 ≤ n → unsigned_abs (sign_correction s t m n) ≤ 2 ^ m * 2 ^ n
signs-size s t zero n h k = absurd (omega (arith, h))
signs-size s t (suc m) zero h k = absurd (omega (arith, k))
signs-size s t (suc m) (suc n) h k = by s t
  where
    M : 2 ^ (suc m - 1) ≡ 2 ^ m
    M = ap (λ k. 2 ^ k) (omega arith)

    N : 2 ^ (suc n - 1) ≡ 2 ^ n
    N = ap (λ k. 2 ^ k) (omega arith)

    P : 2 ^ (suc m + suc n - 1) ≡ 2 * (2 ^ m * 2 ^ n)
    P =
        let both : suc m + suc n - 1 ≡ suc (m + n) = omega arith in
        ap (λ k. 2 ^ k) both ∙ two-pow-succ (m + n) ∙ omega (arith, pow-add 2 m n)

    all : 2 ^ suc m * 2 ^ suc n ≡ 4 * (2 ^ m * 2 ^ n)
    all = ap (λ x. x * 2 ^ suc n) (two-pow-succ m) ∙ ap (λ y. (2 ^ m + 2 ^ m) * y) (two-pow-succ n) ∙ omega arith

    a : 2 ^ m ≤ 2 ^ m * 2 ^ n
    a = omega (arith, mul-le-mul_left (2 ^ m) (pow_pos n))

    b : 2 ^ n ≤ 2 ^ m * 2 ^ n
    b = omega (arith, mul-le-mul_right (2 ^ n) (pow_pos m))

    by : (s t : Bool) → unsigned_abs (sign_correction s t (suc m) (suc n)) ≤ 2 ^ suc m * 2 ^ suc n
    by true true = omega (arith, ints, M, N, P, all, a, b)
    by true false = omega (arith, ints, M, N, P, all, a, b)
    by false true = omega (arith, ints, M, N, P, all, a, b)
    by false false = omega arith

pub correction-size : (p : Products) (f : Placing) → 1 ≤ p.a.width → 1 ≤ p.b.width
    → unsigned_abs (correction p f) ≤ 2 * (2 ^ p.a.width * 2 ^ p.b.width)
correction-size p f h k = by f.negative
  where
    C : ℤ
    C = sign_correction p.a.signed p.b.signed p.a.width p.b.width

    ones : ℕ
    ones = (2 ^ p.a.width - 1) * (2 ^ p.b.width - 1)

    small : ones ≤ 2 ^ p.a.width * 2 ^ p.b.width
    small = mul-le (2 ^ p.a.width - 1) (2 ^ p.b.width - 1) (2 ^ p.a.width) (2 ^ p.b.width) (omega arith) (omega arith)

    signs : unsigned_abs C ≤ 2 ^ p.a.width * 2 ^ p.b.width
    signs = signs-size p.a.signed p.b.signed p.a.width p.b.width h k

    by : (n : Bool) → unsigned_abs (if n then neg_ℤ (C +ℤ pos ones) else C) ≤ 2 * (2 ^ p.a.width * 2 ^ p.b.width)
    by true = omega (arith, ints, small, signs)
    by false = omega (arith, signs)

-- the greatest number of a format is at least half of 2 to its width
pub width-size : (f : Format) → 1 ≤ f.width → 2 ^ f.width ≤ 2 * size_of f
width-size f h = by f.signed f.width h
  where
    by : (s : Bool) (w : ℕ) → 1 ≤ w → 2 ^ w ≤ 2 * max (reach_with s w).below (reach_with s w).above
    by s zero h = absurd (omega (arith, h))
    by true (suc w) h =
        let e : 2 ^ (suc w - 1) ≡ 2 ^ w = ap (λ k. 2 ^ k) (omega arith) in
        omega (arith, two-pow-succ w, e)
    by false (suc w) h = omega (arith, two-pow-succ w, pow_pos w)

-- with guard bits a term is raised no more than so above its height
pub raised-few : (s : Sop) (t : Term) (guard : ℕ) → guard ≤ 11 → 2 ^ places_up (finer guard t.shift) ≤ 2 ^ height s t * 2 ^ 11
raised-few s t guard h =
    let few : places_up (finer guard t.shift) ≤ height s t + 11 = by t.shift (depth s) in
    omega (arith, power_order (places_up (finer guard t.shift)) (height s t + 11) few, pow-add 2 (height s t) 11)
  where
    grows : (a b : ℤ) (k : ℕ) → a ≤ℤ (b +ℤ pos k) → places_up a ≤ places_up b + k
    grows (pos a) (pos b) k h = omega (arith, ints, h)
    grows (pos a) (negsuc b) k h = omega (arith, ints, h)
    grows (negsuc a) b k h = omega arith

    by : (z : ℤ) (d : ℕ) → places_up (z +ℤ pos guard) ≤ places_up (z +ℤ pos d) + 11
    by z d = grows (z +ℤ pos guard) (z +ℤ pos d) 11 (omega (arith, ints, h))

-- a number that is no greater than some of the term's, raised
pub room : (s : Sop) (t : Term) (guard n k : ℕ) → IsSmall s t → guard ≤ 11 → n ≤ k * t.size → k ≤ 8
    → n * 2 ^ places_up (finer guard t.shift) ≤ 2 ^ 125
room s t guard n k small h bound few =
    let R = 2 ^ places_up (finer guard t.shift) in
    let H = 2 ^ height s t in
    let raised : R ≤ H * 2 ^ 11 = raised-few s t guard h in
    let eight = mul-le-mul_right t.size few in
    let times : n * R ≤ 8 * t.size * (H * 2 ^ 11) = mul-le n R (8 * t.size) (H * 2 ^ 11) (omega (arith, bound, eight)) raised in
    omega (arith, times, small.size)

pub products-size : (s : Sop) (t : Times) → IsSop s → 1 ≤ (format_of s t.a).width → 1 ≤ (format_of s t.b).width
    → 2 ^ (format_of s t.a).width * 2 ^ (format_of s t.b).width ≤ 4 * (times_term s t).size
products-size s t sop a b =
    let A = size_of (format_of s t.a) in
    let B = size_of (format_of s t.b) in
    let both = mul-le (2 ^ (format_of s t.a).width) (2 ^ (format_of s t.b).width) (2 * A) (2 * B) (width-size (format_of s t.a) a) (width-size (format_of s t.b) b) in
    let more = mul-le-mul_right (A * B) (some_units s.den sop.numbers.positive) in
    omega (arith, both, more)
