-- The recurrence on whole numbers, by the quotient and the rest on natural numbers; the sum as a whole number.
use Rattle.std.proofs.Common.{◌≡◌, ℕ, ◌+◌, ◌*◌, ◌^◌, ◌<◌, ◌≤◌, Bool, true, false, List, length, if◌then◌else◌, refl, sym, ap, ◌∙◌, arith}
use Rattle.std.specs.Prelude.{ℤ, pos, negsuc, ◌+ℤ◌, ◌-ℤ◌, ◌*ℤ◌, ◌<ℤ◌}
use Rattle.std.proofs.lemmas.Int.{ints}
use Rattle.opgen_num.specs.Rounding.{IsQuotient}
use Rattle.opgen_num.specs.Words.{digit, int, nat}
use Rattle.opgen_num.proofs.Values.{int-low, int-high}
use Rattle.opgen_nonrestoring.specs.Recurrence.{Partial, is_not_negative, next_partial, IsInvariant}
use Rattle.opgen_nonrestoring.proofs.Numbers.{IsSum}

-- what the last digit says of the quotient of digits -1 and 1, and of the remainder
pub record IsPartial (b q r : ℕ) (last : Bool) (p : Partial) : Type 0 where
  pub quotient : p.quotient ≡ pos (if last then q else q + 1)
  pub remainder : p.remainder ≡ (if last then pos r else pos r -ℤ pos b)

sign-low : (z : ℤ) → z <ℤ pos 0 → is_not_negative z ≡ false
sign-low (pos n) h = absurd (omega (arith, ints, h))
sign-low (negsuc n) h = refl

module _ (b q r : ℕ) (below : r < b) (p : Partial) where
  pub sign-is : (last : Bool) → IsPartial b q r last p → is_not_negative p.remainder ≡ last
  sign-is true is = ap is_not_negative is.remainder
  sign-is false is = sign-low p.remainder (omega (arith, ints, is.remainder, below))

  module _ (a : Bool) (rest : ℕ) where
    abbrev doubled : ℤ
    doubled = (pos 2 *ℤ p.remainder) +ℤ pos (digit a)

    -- both cases of the step before give the same quotient, and the same remainder
    whole : (last : Bool) → IsPartial b q r last p → (next_partial b p a).quotient ≡ pos (2 * q + 1)
    whole true is =
        ap (λ (c : Bool). (pos 2 *ℤ p.quotient) +ℤ (if c then pos 1 else negsuc 0)) (sign-is true is) ∙ omega (arith, ints, is.quotient)
    whole false is =
        ap (λ (c : Bool). (pos 2 *ℤ p.quotient) +ℤ (if c then pos 1 else negsuc 0)) (sign-is false is) ∙ omega (arith, ints, is.quotient)

    left : (last : Bool) → IsPartial b q r last p → (next_partial b p a).remainder ≡ pos (2 * r + digit a) -ℤ pos b
    left true is = ap (λ (c : Bool). if c then doubled -ℤ pos b else doubled +ℤ pos b) (sign-is true is) ∙ omega (arith, ints, is.remainder)
    left false is = ap (λ (c : Bool). if c then doubled -ℤ pos b else doubled +ℤ pos b) (sign-is false is) ∙ omega (arith, ints, is.remainder)

    pub next-partial : (last next : Bool) → IsPartial b q r last p → (next ≡ true → rest + b ≡ 2 * r + digit a)
        → (next ≡ false → rest ≡ 2 * r + digit a) → IsPartial b (2 * q + digit next) rest next (next_partial b p a)
    next-partial last true is taken kept = record {
      quotient = whole last is;
      remainder = left last is ∙ omega (arith, ints, taken refl);
    }
    next-partial last false is taken kept =
        let e : 2 * q + 1 ≡ 2 * q + 0 + 1 = omega arith in
        record { quotient = whole last is ∙ ap pos e; remainder = left last is ∙ ap (λ m. pos m -ℤ pos b) (sym (kept refl)) }

  -- the invariant
  pub invariant-is : (n : ℕ) (last : Bool) → IsQuotient n b q r → IsPartial b q r last p → IsInvariant n b q last p
  invariant-is n true h is = record {
    equation =
        let same : pos n ≡ (pos q *ℤ pos b) +ℤ pos r = omega (arith, ints, h.0) in
        same ∙ ap (λ z. (z *ℤ pos b) +ℤ pos r) (sym is.quotient) ∙ ap (λ z. (p.quotient *ℤ pos b) +ℤ z) (sym is.remainder);
    at_least = omega (arith, ints, is.remainder);
    below = omega (arith, ints, is.remainder, below);
    last_digit = sym (sign-is true is);
    binary = is.quotient;
  }
  invariant-is n false h is = record {
    equation =
        let same : pos n ≡ (pos (q + 1) *ℤ pos b) +ℤ (pos r -ℤ pos b) = omega (arith, ints, h.0) in
        same ∙ ap (λ z. (z *ℤ pos b) +ℤ (pos r -ℤ pos b)) (sym is.quotient) ∙ ap (λ z. (p.quotient *ℤ pos b) +ℤ z) (sym is.remainder);
    at_least = omega (arith, ints, is.remainder);
    below = omega (arith, ints, is.remainder, below);
    last_digit = sym (sign-is false is);
    binary = is.quotient;
  }

-- the sum in two's complement is the remainder, or its complement where the digit before the last is 1
module _ (h b q r : ℕ) (s : List Bool) (double : 2 ^ length s ≡ h + h) (small : b ≤ h) (below : r < b) (p : Partial) where
  pub sum-is : (before last : Bool) → IsSum before last (2 ^ length s) b r (nat s) → IsPartial b q r last p
      → p.remainder ≡ (if before then negsuc 0 -ℤ int s else int s)
  sum-is false false e is = is.remainder ∙ omega (arith, ints, e, int-high s (omega (arith, double, small, e)))
  sum-is false true e is = is.remainder ∙ omega (arith, ints, e, int-low s (omega (arith, double, small, below, e)))
  sum-is true true e is = is.remainder ∙ omega (arith, ints, e, int-high s (omega (arith, double, small, below, e)))
  sum-is true false e is = is.remainder ∙ omega (arith, ints, e, int-low s (omega (arith, double, small, below, e)))
