-- A step on numbers: the sum of the divisor and twice the negative word gives the next digit and the next sum.
use Rattle.std.proofs.Common.{◌≡◌, ℕ, zero, suc, ◌+◌, ◌-◌, ◌*◌, ◌<◌, ◌≤◌, Bool, true, false, not, refl, arith}
use Rattle.opgen_num.specs.Rounding.{IsQuotient}
use Rattle.opgen_num.specs.Words.{digit, xor}
use Rattle.opgen_num.proofs.Words.{digit-below}

-- What a sum is to a rest r below b, by the digit before the last, and the last; p is 2 to the number of bits of the sum. Where the
-- last digit is 1 the remainder is r, and else r less b.
abbrev pub IsSum : (before last : Bool) → (p b r s : ℕ) → Type 0
IsSum false false p b r s = s + b ≡ r + p
IsSum false true p b r s = s ≡ r
IsSum true true p b r s = s + r + 1 ≡ p
IsSum true false p b r s = s + r + 1 ≡ b

-- what the negative word is to the rest; h is 2 to its number of bits
abbrev pub IsNegative : (last : Bool) → (h b r n : ℕ) → Type 0
IsNegative true h b r n = n + r + 1 ≡ h
IsNegative false h b r n = n + b ≡ r + h

-- the digit of a sum by its highest bit
abbrev pub digit_of : (before highest : Bool) → Bool
digit_of before highest = not (xor before highest)

-- a sum with a highest bit, and a number of the bits below it
module _ (h p b r s low : ℕ) (double : p ≡ h + h) (small : b ≤ h) (below : r < b) (low_below : low < h) where
  -- the last digit is the one of the sum
  pub digit-is : (before last highest : Bool) → IsSum before last p b r s → s ≡ low + digit highest * h → last ≡ digit_of before highest
  digit-is false false false e f = absurd (omega (arith, double, small, below, low_below, e, f))
  digit-is false false true e f = refl
  digit-is false true false e f = refl
  digit-is false true true e f = absurd (omega (arith, double, small, below, low_below, e, f))
  digit-is true false false e f = refl
  digit-is true false true e f = absurd (omega (arith, double, small, below, low_below, e, f))
  digit-is true true false e f = absurd (omega (arith, double, small, below, low_below, e, f))
  digit-is true true true e f = refl

  -- and the negative word is its lower bits, turned where the highest is 0
  pub negative-is : (before last highest : Bool) (n : ℕ) → IsSum before last p b r s → s ≡ low + digit highest * h
      → (highest ≡ false → n + low + 1 ≡ h) → (highest ≡ true → n ≡ low) → IsNegative last h b r n
  negative-is false false false n e f g k = absurd (omega (arith, double, small, below, low_below, e, f))
  negative-is false false true n e f g k = omega (arith, double, e, f, k refl)
  negative-is false true false n e f g k = omega (arith, e, f, g refl)
  negative-is false true true n e f g k = absurd (omega (arith, double, small, below, low_below, e, f))
  negative-is true false false n e f g k = omega (arith, e, f, g refl)
  negative-is true false true n e f g k = absurd (omega (arith, double, small, below, low_below, e, f))
  negative-is true true false n e f g k = absurd (omega (arith, double, small, below, low_below, e, f))
  negative-is true true true n e f g k = omega (arith, double, e, f, k refl)

-- The next step, by its last carry: s is the sum, x twice the rest and the next bit of the numerator, t that bit or its complement.
module _ (h p b r n s low x t : ℕ) (double : p ≡ h + h) (small : b ≤ h) (below : r < b) (low_below : low < h) where
  subtracted-one : (c : ℕ) → n + r + 1 ≡ h → t + x ≡ 2 * r + 1 → s + p * c ≡ b + (t + 2 * n) → s ≡ low + h
      → (b ≤ x) × (s + x + 1 ≡ p + b)
  subtracted-one zero g k e f = (omega (arith, double, g, k, e, f, low_below), omega (arith, double, g, k, e))
  subtracted-one (suc c) g k e f = absurd (omega (arith, double, small, g, k, e, f))

  subtracted-zero : (c : ℕ) → n + r + 1 ≡ h → t + x ≡ 2 * r + 1 → s + p * c ≡ b + (t + 2 * n) → s ≡ low
      → (x < b) × (s + x + 1 ≡ b)
  subtracted-zero zero g k e f = absurd (omega (arith, double, small, below, low_below, g, k, e, f))
  subtracted-zero (suc zero) g k e f = (omega (arith, double, g, k, e), omega (arith, double, g, k, e))
  subtracted-zero (suc (suc c)) g k e f = absurd (omega (arith, double, small, below, g, k, e, f))

  added-one : (c : ℕ) → n + b ≡ r + h → x ≡ 2 * r + t → t < 2 → s + p * c ≡ b + (t + 2 * n) → s ≡ low + h
      → (x < b) × (s + b ≡ x + p)
  added-one zero g k l e f = (omega (arith, double, g, k, e, f, low_below), omega (arith, double, g, k, e))
  added-one (suc c) g k l e f = absurd (omega (arith, double, small, below, g, k, l, e, f))

  added-zero : (c : ℕ) → n + b ≡ r + h → x ≡ 2 * r + t → t < 2 → s + p * c ≡ b + (t + 2 * n) → s ≡ low
      → (b ≤ x) × (s + b ≡ x)
  added-zero zero g k l e f = absurd (omega (arith, double, small, low_below, g, k, e, f))
  added-zero (suc zero) g k l e f = (omega (arith, double, g, k, e), omega (arith, double, g, k, e))
  added-zero (suc (suc c)) g k l e f = absurd (omega (arith, double, small, below, g, k, l, e, f))

-- What a step leaves: a rest below the divisor, by twice the rest before and the next bit of the numerator.
pub record HasNext (before last : Bool) (a : Bool) (p b r s : ℕ) : Type 0 where
  pub rest : ℕ
  pub below : rest < b
  pub taken : last ≡ true → rest + b ≡ 2 * r + digit a
  pub kept : last ≡ false → rest ≡ 2 * r + digit a
  pub sum : IsSum before last p b rest s

same-bit : (a : Bool) → digit (xor a true) + digit a ≡ 1
same-bit true = refl
same-bit false = refl

turned-bit : (a : Bool) → digit (xor a false) ≡ digit a
turned-bit true = refl
turned-bit false = refl

module _ (h p b r n s low : ℕ) (double : p ≡ h + h) (small : b ≤ h) (below : r < b) (low_below : low < h) where
  -- by the next bit of the numerator, the last digit, and the highest bit of the new sum
  pub next : (a last highest : Bool) (c : ℕ) → IsNegative last h b r n → s + p * c ≡ b + (digit (xor a last) + 2 * n)
      → s ≡ low + digit highest * h → HasNext last (digit_of last highest) a p b r s
  next a true true c g e f =
      let x = 2 * r + digit a in
      let t = digit (xor a true) in
      let k : t + x ≡ 2 * r + 1 = omega (arith, same-bit a) in
      let top : s ≡ low + h = omega (arith, f) in
      let o = subtracted-one h p b r n s low x t double small below low_below c g k e top in
      let rest : x - b + b ≡ x = omega (arith, o.0) in
      record {
        rest = x - b;
        below = omega (arith, rest, below, digit-below a);
        taken = λ _. rest;
        kept = λ h. absurd (cc);
        sum = omega (arith, rest, o.1);
      }
  next a true false c g e f =
      let x = 2 * r + digit a in
      let t = digit (xor a true) in
      let k : t + x ≡ 2 * r + 1 = omega (arith, same-bit a) in
      let top : s ≡ low = omega (arith, f) in
      let o = subtracted-zero h p b r n s low x t double small below low_below c g k e top in
      record { rest = x; below = o.0; taken = λ h. absurd (cc); kept = λ _. refl; sum = o.1 }
  next a false true c g e f =
      let x = 2 * r + digit a in
      let t = digit (xor a false) in
      let k : x ≡ 2 * r + t = omega (arith, turned-bit a) in
      let l : t < 2 = omega (arith, turned-bit a, digit-below a) in
      let top : s ≡ low + h = omega (arith, f) in
      let o = added-one h p b r n s low x t double small below low_below c g k l e top in
      record { rest = x; below = o.0; taken = λ h. absurd (cc); kept = λ _. refl; sum = o.1 }
  next a false false c g e f =
      let x = 2 * r + digit a in
      let t = digit (xor a false) in
      let k : x ≡ 2 * r + t = omega (arith, turned-bit a) in
      let l : t < 2 = omega (arith, turned-bit a, digit-below a) in
      let top : s ≡ low = omega (arith, f) in
      let o = added-zero h p b r n s low x t double small below low_below c g k l e top in
      let rest : x - b + b ≡ x = omega (arith, o.0) in
      record {
        rest = x - b;
        below = omega (arith, rest, below, digit-below a);
        taken = λ _. rest;
        kept = λ h. absurd (cc);
        sum = omega (arith, rest, o.1);
      }

-- the numerator and the quotient with a bit more
pub next-quotient : (m b q r rest : ℕ) (a last : Bool) → IsQuotient m b q r → rest < b → (last ≡ true → rest + b ≡ 2 * r + digit a)
    → (last ≡ false → rest ≡ 2 * r + digit a) → IsQuotient (2 * m + digit a) b (2 * q + digit last) rest
next-quotient m b q r rest a true is below taken kept = (omega (arith, is.0, taken refl), below)
next-quotient m b q r rest a false is below taken kept = (omega (arith, is.0, kept refl), below)

-- The remainder at the end: u has the lower bits of the sum, turned where the digit before the last is 1, and v the divisor where the
-- last is 0; their sum in the bits of h is the rest.
module _ (h p b r s low u v out : ℕ) (double : p ≡ h + h) (small : b ≤ h) (below : r < b) (low_below : low < h) (out_below : out < h) where
  whole : (c : ℕ) → out + h * c ≡ r → out ≡ r
  whole zero e = omega (arith, e)
  whole (suc c) e = absurd (omega (arith, small, below, e))

  over : (c : ℕ) → out + h * c ≡ r + h → out ≡ r
  over zero e = absurd (omega (arith, e, out_below))
  over (suc zero) e = omega (arith, e)
  over (suc (suc c)) e = absurd (omega (arith, small, below, e))

  pub rest-is : (before last highest : Bool) (c : ℕ) → IsSum before last p b r s → s ≡ low + digit highest * h
      → (before ≡ true → u + low + 1 ≡ h) → (before ≡ false → u ≡ low) → (last ≡ true → v ≡ 0) → (last ≡ false → v ≡ b)
      → out + h * c ≡ u + v → out ≡ r
  rest-is false false false c e f g k y z o = absurd (omega (arith, double, small, below, low_below, e, f))
  rest-is false false true c e f g k y z o = over c (omega (arith, double, e, f, k refl, z refl, o))
  rest-is false true false c e f g k y z o = whole c (omega (arith, e, f, k refl, y refl, o))
  rest-is false true true c e f g k y z o = absurd (omega (arith, double, small, below, low_below, e, f))
  rest-is true false false c e f g k y z o = over c (omega (arith, e, f, g refl, z refl, o))
  rest-is true false true c e f g k y z o = absurd (omega (arith, double, small, below, low_below, e, f))
  rest-is true true false c e f g k y z o = absurd (omega (arith, double, small, below, low_below, e, f))
  rest-is true true true c e f g k y z o = whole c (omega (arith, double, e, f, g refl, y refl, o))
