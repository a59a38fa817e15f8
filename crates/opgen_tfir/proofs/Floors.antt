-- The whole sum with half a unit, rounded down in units of the output: less than one unit from the sum, and the sum where that is whole.
use Rattle.std.proofs.Common.{◌≡◌, ℕ, zero, suc, ◌+◌, ◌*◌, ◌/◌, ◌%◌, ◌<◌, Bool, true, false, not, List, [], ◌∷◌, length, get_or, None, refl, sym, ap, ◌∙◌, arith}
use Rattle.std.specs.Prelude.{ℤ, pos, negsuc, neg_ℤ, ◌+ℤ◌, ◌*ℤ◌, ◌<ℤ◌, ◌≤ℤ◌, unsigned_abs}
use Rattle.std.proofs.lemmas.Bool.{eqb-true, not-false}
use Rattle.std.proofs.lemmas.Int.{ints}
use Rattle.std.proofs.lemmas.Nat.{div-add-mod', pow_pos}
use Rattle.opgen_num.specs.Floors.{IsFloor}
use Rattle.opgen_num.specs.Rounding.{IsWithinOne, IsGoodLinear}
use Rattle.opgen_num.proofs.Integers.{product-sum, product_assoc, product_cancel}
use Rattle.opgen_num.proofs.Quotients.{within_one}
use Rattle.opgen_num.proofs.Lists.{none-passes}
use Rattle.opgen_kinds.specs.Sum.{first_inexact_of}
use Rattle.opgen_ports.specs.Reaches.{is_whole_at, up, down}
use Rattle.opgen_ports.specs.Ports.{Recent, weighted, weighted_from}
use Rattle.opgen_ports.specs.Modes.{mode_of_exact}
use Rattle.opgen_ports.proofs.Reached.{neg-right}

-- ---- whole multiples of a number

pub record IsMultipleOf (m : ℕ) (z : ℤ) : Type 0 where
  pub times : ℤ
  pub is : pos m *ℤ times ≡ z

module _ (z q : ℤ) (m h : ℕ) (some : 0 < m) (less : h < m) (floor : IsFloor (z +ℤ pos h) (pos m) q) where
  next : pos m *ℤ (q +ℤ pos 1) ≡ (pos m *ℤ q) +ℤ pos m
  next = product-sum (pos m) q (pos 1) ∙ omega (arith, ints)

  pub floor-near : IsWithinOne z (pos m) q
  floor-near = within_one z (pos m) q (omega (arith, ints, floor.0, less)) (omega (arith, ints, floor.1, next))

  pub floor-exact : IsMultipleOf m z → pos m *ℤ q ≡ z
  floor-exact e =
      let t = e.times in
      let after : pos m *ℤ (t +ℤ pos 1) ≡ (pos m *ℤ t) +ℤ pos m = product-sum (pos m) t (pos 1) ∙ omega (arith, ints) in
      let low : q <ℤ (t +ℤ pos 1) = product_cancel (pos m) q (t +ℤ pos 1) (omega (arith, ints))
      (omega (arith, ints, floor.0, e.is, after, less)) in
      let high : t <ℤ (q +ℤ pos 1) = product_cancel (pos m) t (q +ℤ pos 1) (omega (arith, ints))
      (omega (arith, ints, floor.1, e.is)) in
      let same : q ≡ t = omega (arith, ints, low, high) in
      ap (λ y. pos m *ℤ y) same ∙ e.is

  pub floor-good : (exact : Bool) → (exact ≡ true → IsMultipleOf m z) → IsGoodLinear z (pos m) q (mode_of_exact exact)
  floor-good true whole = floor-exact (whole refl)
  floor-good false whole = floor-near

-- ---- taps that are all whole in units of the output

whole-tap : (c : ℤ) (m : ℕ) → 0 < m → unsigned_abs c % m ≡ 0 → IsMultipleOf m c
whole-tap (pos a) m some h = record { times = pos (a / m); is = omega (arith, ints, div-add-mod' a m, h) }
whole-tap (negsuc a) m some h =
    let q = suc a / m in
    let rest : suc a % m ≡ 0 = h in
    let whole : m * q ≡ suc a = omega (arith, div-add-mod' (suc a) m, rest) in
    record { times = neg_ℤ (pos q); is = neg-right m q ∙ ap (λ n. neg_ℤ (pos n)) whole ∙ omega (arith, ints) }

-- a sum of multiples is a multiple
weighted-whole : (m : ℕ) (ago : ℕ) (ts : List ℤ) (x : Recent) → ((k : ℕ) → k < length ts → IsMultipleOf m (get_or ts k (pos 0)))
    → IsMultipleOf m (weighted_from ago ts x)
weighted-whole m ago [] x each = record { times = pos 0; is = omega (arith, ints) }
weighted-whole m ago (t ∷ ts) x each =
    let first : IsMultipleOf m t = each 0 (omega arith) in
    let rest = weighted-whole m (ago + 1) ts x (λ k lt. each (suc k) (omega (arith, lt))) in
    let y = x ago in
    let turned : pos m *ℤ (first.times *ℤ y) ≡ y *ℤ t =
    sym (product_assoc (pos m) first.times y) ∙ ap (λ v. v *ℤ y) first.is ∙ omega (arith, ints) in
    record {
      times = (first.times *ℤ y) +ℤ rest.times;
      is = product-sum (pos m) (first.times *ℤ y) rest.times ∙ ap (λ v. v +ℤ (pos m *ℤ rest.times)) turned
          ∙ ap (λ v. (y *ℤ t) +ℤ v) rest.is;
    }

-- no tap that is not whole: so is the sum
pub sum-whole : (s : ℤ) (ts : List ℤ) (x : Recent) → s ≤ℤ pos 0 → first_inexact_of (pos 1) s ts ≡ None
    → IsMultipleOf (down s) (weighted ts x)
sum-whole s ts x high none = weighted-whole (down s) 0 ts x each
  where
    one-up : (s : ℤ) → s ≤ℤ pos 0 → up s ≡ 1
    one-up (pos zero) h = omega arith
    one-up (pos (suc n)) h = absurd (omega (arith, ints, h))
    one-up (negsuc n) h = omega arith

    some-down : (s : ℤ) → 0 < down s
    some-down (pos n) = omega arith
    some-down (negsuc n) = pow_pos (n + 1)

    each : (k : ℕ) → k < length ts → IsMultipleOf (down s) (get_or ts k (pos 0))
    each k lt =
        let c = get_or ts k (pos 0) in
        let whole : (unsigned_abs c * up s) % (1 * down s) ≡ 0 =
        eqb-true ((unsigned_abs c * up s) % (1 * down s)) 0
        (not-false (is_whole_at (pos 1) s c) (none-passes (λ d. not (is_whole_at (pos 1) s d)) 0 ts k none lt)) in
        let top : unsigned_abs c * up s ≡ unsigned_abs c = ap (λ n. unsigned_abs c * n) (one-up s high) ∙ omega arith in
        let bottom : 1 * down s ≡ down s = omega arith in
        whole-tap c (down s) (some-down s) (sym (ap (λ n. n % (1 * down s)) top ∙ ap (λ n. unsigned_abs c % n) bottom) ∙ whole)
