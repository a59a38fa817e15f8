-- What holds of quotients: those rounded towards 0, and their words, formats, port names and widths.
use Rattle.std.proofs.Common.{ℕ, ◌^◌, ◌<◌, Bool, not, is_some, List, length, ◌≡◌, true, ◌≢◌, zero, suc, ◌+◌, ◌-◌, ◌*◌, ◌%◌, ◌≤◌, false, refl, sym, ap, ◌∙◌, subst, arith}
use Rattle.std.proofs.lemmas.Int.{ints, quot-rem, rem_below}
use Rattle.std.proofs.lemmas.Nat.{pow-add, pow_pos}
use Rattle.std.proofs.Math.Nat.{div-le_self, mul-le-mul, mul-le-mul_right}
use Rattle.std.specs.Prelude.{codes, slice_index, ℤ, pos, negsuc, neg_ℤ, ◌-ℤ◌, ◌*ℤ◌, ◌≤ℤ◌, ◌<ℤ◌, int_div, int_rem, unsigned_abs, All}
use Rattle.opgen_num.specs.declared.mode.Mode.TheVariants.{Faithful}
use Rattle.opgen_num.specs.Formats.{Holds, is_negative}
use Rattle.opgen_num.specs.Rounding.{IsQuotient}
use Rattle.opgen_num.specs.Words.{xor}
use Rattle.opgen_num.proofs.BitLength.{power_order}
use Rattle.opgen_num.proofs.Integers.{difference-product, zero_from_abs}
use Rattle.opgen_kinds.specs.declared.pair.Pair.{Pair}
use Rattle.opgen_ports.specs.Ports.{HasWidth, IsCycle, port}
use Rattle.opgen_ports.specs.Good.{IsGoodRatio}
use Rattle.opgen_kinds.specs.Pair.{quotient_ports, quotient_format, remainder_format, exact_quotient, quotient_value, pair_shift, over, sign_bit, IsTruncated, IsGoodQuotient, IsPair, dividend, pair_meaning, pair_acceptance}
use Rattle.opgen_ports.specs.Modes.{is_exact, IsExactOrFaithful}
use Rattle.opgen_ports.specs.Limits.{most_signal}
use Rattle.opgen_ports.specs.Reaches.{places_up, up}
use Rattle.opgen_ports.specs.Spans.{IsOf}
use Rattle.opgen_ports.specs.In128.{IsIn128, IsRatioIn128}
use Rattle.opgen_ports.proofs.Bounds.{few_up}
use Rattle.opgen_ports.proofs.Covered.{rounded_within}
use Rattle.opgen_ports.proofs.Cycles.{main_word, rest_word}
use Rattle.opgen_ports.proofs.In128.{small_in128}
use Rattle.opgen_ports.proofs.InputPorts.{all_one, all_two, input_bit, HasBit}
use Rattle.opgen_ports.proofs.Lawful.{IsLawful}
use Rattle.opgen_kinds.proofs.of_kind.ProductWidths.{neg-neg}
use Rattle.opgen_ports.proofs.Magnitudes.{number_small, raised_within, product_within, holds_within, unsigned_abs-product}
use Rattle.opgen_ports.proofs.Reached.{neg-left, neg-right}
use Rattle.opgen_ports.proofs.Versions.{signal_limit}

-- a natural number with a sign
abbrev pub with_sign : (negative : Bool) → ℕ → ℤ
with_sign true n = neg_ℤ (pos n)
with_sign false n = pos n

pub sign_and_size : (n : ℤ) → with_sign (is_negative n) (unsigned_abs n) ≡ n
sign_and_size n = go (is_negative n) refl
  where
    go : (s : Bool) → is_negative n ≡ s → with_sign s (unsigned_abs n) ≡ n
    go true e = omega (arith, ints)
    go false e = omega (arith, ints)

-- Quotients of natural numbers have the sign of the product, remainders that of the dividend.
pub truncated_signed : (s t : Bool) (n b q r : ℕ) → IsQuotient n b q r
    → IsTruncated (with_sign s n) (with_sign t b) (with_sign (xor s t) q) (with_sign s r)
truncated_signed false false n b q r (whole, smaller) =
    record { whole = omega (arith, ints, whole); smaller = smaller; alike = omega (arith, ints) }
truncated_signed false true n b q r (whole, smaller) =
    record { whole = omega (arith, ints, whole, neg-neg q b); smaller = omega (arith, ints, smaller); alike = omega (arith, ints) }
truncated_signed true false n b q r (whole, smaller) =
    record { whole = omega (arith, ints, whole, neg-left q b); smaller = omega (arith, ints, smaller); alike = omega (arith, ints, neg-neg n r) }
truncated_signed true true n b q r (whole, smaller) =
    record { whole = omega (arith, ints, whole, neg-right q b); smaller = omega (arith, ints, smaller); alike = omega (arith, ints, neg-neg n r) }

pub truncated_of_sizes : (n b : ℤ) (q r : ℕ) → IsQuotient (unsigned_abs n) (unsigned_abs b) q r
    → IsTruncated n b (with_sign (xor (is_negative n) (is_negative b)) q) (with_sign (is_negative n) r)
truncated_of_sizes n b q r h =
    let s = is_negative n in
    let t = is_negative b in
    subst (λ z. IsTruncated z b (with_sign (xor s t) q) (with_sign s r)) (sign_and_size n)
    (subst (λ z. IsTruncated (with_sign s (unsigned_abs n)) z (with_sign (xor s t) q) (with_sign s r)) (sign_and_size b)
    (truncated_signed s t (unsigned_abs n) (unsigned_abs b) q r h))

pub truncated_naturals : (n b q r : ℕ) → IsQuotient n b q r → IsTruncated (pos n) (pos b) (pos q) (pos r)
truncated_naturals n b q r h = truncated_signed false false n b q r h

-- a quotient rounded towards 0 is less than one away
pub truncated_near : (n b q r : ℤ) → IsTruncated n b q r → IsGoodRatio Faithful (over n b) q
truncated_near n (pos d) q r t = omega (arith, ints, t.whole, t.smaller)
truncated_near n (negsuc d) q r t = omega (arith, ints, t.whole, t.smaller)

-- so a division of the sizes and the signs of its operands give good outputs
dividend_signed : (p : Pair) (s : Bool) (a : ℕ) → with_sign s (a * up (pair_shift p)) ≡ dividend p (with_sign s a)
dividend_signed p true a = sym (neg-left a (up (pair_shift p)))
dividend_signed p false a = omega (arith, ints)

exact_of_sizes : (p : Pair) (s t : Bool) (a b q r : ℕ) → IsQuotient (a * up (pair_shift p)) b q r
    → IsTruncated (dividend p (with_sign s a)) (with_sign t b) (with_sign (xor s t) q) (with_sign s r)
exact_of_sizes p s t a b q r h =
    subst (λ n. IsTruncated n (with_sign t b) (with_sign (xor s t) q) (with_sign s r)) (dividend_signed p s a)
    (truncated_signed s t (a * up (pair_shift p)) b q r h)

pub good_of_sizes : (exact : Bool) (p : Pair) (s t : Bool) (a b q r : ℕ) → IsQuotient (a * up (pair_shift p)) b q r
    → IsGoodQuotient exact p (with_sign s a) (with_sign t b) (with_sign (xor s t) q) (with_sign s r)
good_of_sizes true p s t a b q r h = exact_of_sizes p s t a b q r h
good_of_sizes false p s t a b q r h =
    truncated_near (dividend p (with_sign s a)) (with_sign t b) (with_sign (xor s t) q) (with_sign s r) (exact_of_sizes p s t a b q r h)

-- the quotient and the remainder of the code
pub truncated_is : (n b : ℤ) → b ≢ pos 0 → IsTruncated n b (int_div n b) (int_rem n b)
truncated_is n b some = record { whole = sym (quot-rem n b); smaller = rem_below n b (size b some); alike = alike n b }
  where
    size : (b : ℤ) → b ≢ pos 0 → 0 < unsigned_abs b
    size (pos zero) none = absurd (none refl)
    size (pos (suc n)) none = omega arith
    size (negsuc n) none = omega arith

    below : (a k : ℕ) → pos 0 ≤ℤ (negsuc a *ℤ neg_ℤ (pos k))
    below a zero = omega (arith, ints)
    below a (suc k) = omega (arith, ints)

    alike : (n b : ℤ) → pos 0 ≤ℤ (n *ℤ int_rem n b)
    alike (pos a) b = omega (arith, ints)
    alike (negsuc a) b = below a (suc a % unsigned_abs b)

pub quotient_small : (n b : ℤ) → unsigned_abs (int_div n b) ≤ unsigned_abs n
quotient_small (pos n) (pos b) = div-le_self n b
quotient_small (pos n) (negsuc b) = omega (arith, ints, div-le_self n (suc b))
quotient_small (negsuc n) (pos b) = omega (arith, ints, div-le_self (suc n) b)
quotient_small (negsuc n) (negsuc b) = div-le_self (suc n) (suc b)

-- and there are no others
no_multiple : (d b : ℕ) → d * b < b → d ≡ 0
no_multiple zero b h = refl
no_multiple (suc d) b h = absurd (omega (arith, h))

rest_of_zero : (b q r : ℤ) → IsTruncated (pos 0) b q r → r ≡ pos 0
rest_of_zero b q r t =
    let size : unsigned_abs (q *ℤ b) ≡ unsigned_abs r = omega (arith, ints, t.whole) in
    let none : q ≡ pos 0 =
    zero_from_abs q (no_multiple (unsigned_abs q) (unsigned_abs b) (omega (arith, size, unsigned_abs-product q b, t.smaller))) in
    omega (arith, ints, t.whole, ap (λ z. z *ℤ b) none)

-- two remainders have one sign
gap : (n b q r p l : ℤ) → IsTruncated n b q r → IsTruncated n b p l → unsigned_abs (l -ℤ r) < unsigned_abs b
gap (pos zero) b q r p l t u = omega (arith, ints, rest_of_zero b q r t, rest_of_zero b p l u, t.smaller)
gap (pos (suc n)) b q (pos r) p (pos l) t u = omega (arith, ints, t.smaller, u.smaller)
gap (pos (suc n)) b q (negsuc r) p l t u = absurd (omega (arith, ints, t.alike))
gap (pos (suc n)) b q (pos r) p (negsuc l) t u = absurd (omega (arith, ints, u.alike))
gap (negsuc n) b q (negsuc r) p (negsuc l) t u = omega (arith, ints, t.smaller, u.smaller)
gap (negsuc n) b q (pos (suc r)) p l t u = absurd (omega (arith, ints, t.alike))
gap (negsuc n) b q r p (pos (suc l)) t u = absurd (omega (arith, ints, u.alike))
gap (negsuc n) b q (pos zero) p (pos zero) t u = omega (arith, ints, t.smaller)
gap (negsuc n) b q (pos zero) p (negsuc l) t u = omega (arith, ints, u.smaller)
gap (negsuc n) b q (negsuc r) p (pos zero) t u = omega (arith, ints, t.smaller)

pub truncated_only : (n b q r p l : ℤ) → IsTruncated n b q r → IsTruncated n b p l → (q ≡ p) × (r ≡ l)
truncated_only n b q r p l t u =
    let between : (l -ℤ r) ≡ (q -ℤ p) *ℤ b = omega (arith, ints, difference-product q p b, t.whole, u.whole) in
    let size : unsigned_abs (l -ℤ r) ≡ unsigned_abs (q -ℤ p) * unsigned_abs b = ap unsigned_abs between ∙ unsigned_abs-product (q -ℤ p) b in
    let none = zero_from_abs (q -ℤ p) (no_multiple (unsigned_abs (q -ℤ p)) (unsigned_abs b) (omega (arith, size, gap n b q r p l t u))) in
    let same : q ≡ p = omega (arith, ints, none) in
    (same, omega (arith, ints, t.whole, u.whole, ap (λ z. z *ℤ b) same))

-- the words of a cycle
pub quotient_word : (exact : Bool) (p : Pair) (words : List ℕ) → IsCycle (quotient_ports exact p) words
    → (0 < length words) × (slice_index words 0 < 2 ^ (quotient_format p).width)
quotient_word exact p words cycle = main_word exact (port (codes "q") (quotient_format p)) (port (codes "r") (remainder_format p)) words cycle

pub remainder_word : (exact : Bool) (p : Pair) (words : List ℕ) → exact ≡ true → IsCycle (quotient_ports exact p) words
    → (1 < length words) × (slice_index words 1 < 2 ^ (remainder_format p).width)
remainder_word exact p words e cycle =
    rest_word exact (port (codes "q") (quotient_format p)) (port (codes "r") (remainder_format p)) words e cycle

-- the dividend is no wider than the quotient
pub dividend_small : (p : Pair) (a : ℤ) → IsPair p → IsOf p.a a → (quotient_format p).width ≤ 96 → unsigned_abs (dividend p a) ≤ 2 ^ 96
dividend_small p a fits of_a narrow =
    let s = places_up (pair_shift p) in
    let all : unsigned_abs (dividend p a) ≤ 2 ^ (p.a.width + s) = product_within a (pos (2 ^ s)) p.a.width s
    (holds_within p.a.signed p.a.width a of_a) (omega arith) in
    omega (arith, all, power_order (p.a.width + s) 96 (omega (arith, narrow)))

-- a fraction over a number that is not 0
pub over_positive : (n b : ℤ) → b ≢ pos 0 → pos 0 <ℤ (over n b).den
over_positive n (pos zero) some = absurd (some refl)
over_positive n (pos (suc d)) some = omega (arith, ints)
over_positive n (negsuc d) some = omega (arith, ints)

over_within : (n b : ℤ) (bound : ℕ) → b ≢ pos 0 → unsigned_abs n ≤ bound
    → (((over n b).den *ℤ neg_ℤ (pos bound)) ≤ℤ (over n b).num) × ((over n b).num ≤ℤ ((over n b).den *ℤ pos bound))
over_within n (pos zero) bound some few = absurd (some refl)
over_within n (pos (suc d)) bound some few =
    (omega (arith, ints, few, neg-right (suc d) bound), omega (arith, ints, few))
over_within n (negsuc d) bound some few =
    (omega (arith, ints, few, neg-right (d + 1) bound), omega (arith, ints, few))

-- a signed quotient is no greater than the size of its dividend, and the least dividend has 2 ^ (w - 1)
signed_held : (w s : ℕ) (a b y : ℤ) → 1 ≤ w → Holds true w a → b ≢ pos 0 → IsGoodRatio Faithful (over (a *ℤ pos (2 ^ s)) b) y
    → Holds true (w + s + 1) y
signed_held w s a b y bit (low, high) some good =
    let half = 2 ^ (w - 1) in
    let size : unsigned_abs a ≤ half = omega (arith, ints, low, high) in
    let most : unsigned_abs a * 2 ^ s ≤ half * 2 ^ s = mul-le-mul_right (2 ^ s) size in
    let all : unsigned_abs (a *ℤ pos (2 ^ s)) ≤ half * 2 ^ s = omega (arith, most, unsigned_abs-product a (pos (2 ^ s))) in
    let within = over_within (a *ℤ pos (2 ^ s)) b (half * 2 ^ s) some all in
    let (least, greatest) = rounded_within (over (a *ℤ pos (2 ^ s)) b).num (over (a *ℤ pos (2 ^ s)) b).den (half * 2 ^ s) (half * 2 ^ s) y
    (over_positive (a *ℤ pos (2 ^ s)) b some) within.0 within.1 good in
    let power : 2 ^ (w + s + 1 - 1) ≡ 2 * (half * 2 ^ s) = ap (λ k. 2 ^ k) (omega (arith, bit)) ∙ pow-add 2 (w - 1 + s) 1 ∙ omega (arith, pow-add 2 (w - 1) s) in
    let one : 1 * 1 ≤ half * 2 ^ s = mul-le-mul {n₁ = 1} {m₁ = 1} {n₂ = half} {m₂ = 2 ^ s} (pow_pos (w - 1)) (pow_pos s) in
    (omega (arith, ints, least, power), omega (arith, ints, greatest, power, one))

-- an unsigned quotient is no greater than its dividend
unsigned_held : (w v s : ℕ) (a b y : ℤ) → Holds false w a → Holds false v b → b ≢ pos 0 → IsGoodRatio Faithful (over (a *ℤ pos (2 ^ s)) b) y
    → Holds false (w + s + 0) y
unsigned_held w v s (pos n) (pos zero) y of_a of_b some good = absurd (some refl)
unsigned_held w v s (pos n) (pos (suc d)) y (_, small) of_b some good =
    let N = 2 ^ (w + s) in
    let power : N ≡ 2 ^ w * 2 ^ s = pow-add 2 w s in
    let less : (n + 1) * 2 ^ s ≤ 2 ^ w * 2 ^ s = mul-le-mul_right (2 ^ s) (omega (arith, ints, small)) in
    let few : n * 2 ^ s ≤ N - 1 = omega (arith, less, power, pow_pos s) in
    let more : 1 * (N - 1) ≤ suc d * (N - 1) = mul-le-mul_right (N - 1) (omega arith) in
    let (low, high) = rounded_within (pos n *ℤ pos (2 ^ s)) (pos (suc d)) 0 (N - 1) y (omega (arith, ints)) (omega (arith, ints))
    (omega (arith, ints, few, more)) good in
    let same : 2 ^ (w + s + 0) ≡ N = ap (λ k. 2 ^ k) (omega arith) in
    (omega (arith, ints, low), omega (arith, ints, high, same, pow_pos (w + s)))
unsigned_held w v s (negsuc n) b y (low, _) of_b some good = absurd (omega (arith, ints, low))
unsigned_held w v s (pos n) (negsuc d) y of_a (low, _) some good = absurd (omega (arith, ints, low))

pub quotients_held : (p : Pair) → IsPair p → (a b : ℤ) → IsOf p.a a → IsOf p.b b → b ≢ pos 0 → (y : ℤ)
    → IsGoodRatio Faithful (exact_quotient p a b) y → IsOf (quotient_format p) y
quotients_held p fits a b of_a of_b some y good =
    go p.a.signed p.b.signed fits.alike (input_bit p.a fits.a) of_a of_b good
  where
    s : ℕ
    s = places_up (pair_shift p)

    go : (signed other : Bool) → signed ≡ other → 1 ≤ p.a.width → Holds signed p.a.width a → Holds other p.b.width b
        → IsGoodRatio Faithful (over (a *ℤ pos (2 ^ s)) b) y → Holds signed (p.a.width + s + sign_bit signed) y
    go true true e bit of_a of_b good = signed_held p.a.width s a b y bit of_a some good
    go false false e bit of_a of_b good = unsigned_held p.a.width p.b.width s a b y of_a of_b some good
    go true false e bit of_a of_b good = cc
    go false true e bit of_a of_b good = cc

-- a remainder has the sign of the dividend, and is smaller than the divisor
signed_rest : (w : ℕ) (b r : ℤ) → Holds true w b → unsigned_abs r < unsigned_abs b → Holds true w r
signed_rest w b r (low, high) less = (omega (arith, ints, low, high, less), omega (arith, ints, low, high, less))

unsigned_rest : (w : ℕ) (n b q r : ℤ) → pos 0 ≤ℤ n → Holds false w b → IsTruncated n b q r → Holds false w r
unsigned_rest w (pos zero) b q r none (low, high) t =
    let e = rest_of_zero b q r t in
    (omega (arith, ints, e), omega (arith, ints, e, low, high))
unsigned_rest w (pos (suc n)) b q (pos r) some (low, high) t = (omega (arith, ints), omega (arith, ints, low, high, t.smaller))
unsigned_rest w (pos (suc n)) b q (negsuc r) some of_b t = absurd (omega (arith, ints, t.alike))
unsigned_rest w (negsuc n) b q r some of_b t = absurd (omega (arith, ints, some))

product_natural : (a : ℤ) (k : ℕ) → pos 0 ≤ℤ a → pos 0 ≤ℤ (a *ℤ pos k)
product_natural (pos n) k low = omega (arith, ints)
product_natural (negsuc n) k low = absurd (omega (arith, ints, low))

pub remainders_held : (p : Pair) → IsPair p → (a b : ℤ) → IsOf p.a a → IsOf p.b b → (q r : ℤ) → IsTruncated (dividend p a) b q r
    → IsOf (remainder_format p) r
remainders_held p fits a b of_a of_b q r t = go p.a.signed p.b.signed fits.alike of_a of_b
  where
    go : (signed other : Bool) → signed ≡ other → Holds signed p.a.width a → Holds other p.b.width b → Holds other p.b.width r
    go true true e of_a of_b = signed_rest p.b.width b r of_b t.smaller
    go false false e (low, _) of_b = unsigned_rest p.b.width (dividend p a) b q r (product_natural a (up (pair_shift p)) low) of_b t
    go true false e of_a of_b = cc
    go false true e of_a of_b = cc

quotients_wide : (most : ℕ) (exact : Bool) (p : Pair) → 64 ≤ most → IsPair p → (quotient_format p).width ≤ most
    → All (HasWidth most) (quotient_ports exact p)
quotients_wide most true p far fits few =
    all_two (HasWidth most) _ _ (omega (arith, input_bit p.a fits.a), few)
    (input_bit p.b fits.b, omega (arith, fits.b.most, far))
quotients_wide most false p far fits few = all_one (HasWidth most) _ (omega (arith, input_bit p.a fits.a), few)

over_in128 : (n b : ℤ) → IsIn128 n → unsigned_abs n ≤ 2 ^ 126 → unsigned_abs b ≤ 2 ^ 126 → IsRatioIn128 (over n b)
over_in128 n (pos d) small few less = (small, small_in128 (pos d) less)
over_in128 n (negsuc d) small few less = (small_in128 (neg_ℤ n) (omega (arith, ints, few)), small_in128 (pos (d + 1)) (omega (arith, less)))

-- a quotient has one value where it is faithful
pub valued : (exact : Bool) (p : Pair) → not exact ≡ is_some (quotient_value exact p)
valued true p = refl
valued false p = refl

-- what holds of its meaning
pub pair_lawful : (p : Pair) → IsLawful (pair_meaning p) (pair_acceptance p)
pair_lawful p = record {
  some_input = λ is. omega arith;
  input_bits = λ is. all_two HasBit _ _ (input_bit p.a is.a) (input_bit p.b is.b);
  wide = λ version is. quotients_wide (most_signal version) p.exact p (signal_limit version).0 is.ranges
      (is.narrow (quotient_format p).width refl);
  limit = λ version h. h;
  least = λ h. omega (arith, ints, h);
  room = λ version within high. tt;
  held = (λ fits up a b of_a of_b some y good. quotients_held p fits a b of_a of_b some y good, remainders_held p);
  in128 = λ version is inputs of.
      let a = number_small p.a (inputs 0 0) is.ranges.a (of 0 0 (omega arith)) in
      let b = number_small p.b (inputs 1 0) is.ranges.b (of 1 0 (omega arith)) in
      let size : unsigned_abs (dividend p (inputs 0 0)) ≤ 2 ^ 96 = raised_within (inputs 0 0) 48 (places_up (pair_shift p)) 48 a
      (few_up 48 (pair_shift p) is.fine.1) in
      let whole = small_in128 (dividend p (inputs 0 0)) (omega (arith, size)) in
      (over_in128 (dividend p (inputs 0 0)) (inputs 1 0) whole (omega (arith, size)) (omega (arith, b)), whole);
  recalls = λ mode inputs others outputs same good.
      subst (λ b. IsExactOrFaithful mode × IsGoodQuotient (is_exact mode) p (others 0 0) b (outputs 0) (outputs 1)) (same 1 0 (omega arith))
      (subst (λ a. IsExactOrFaithful mode × IsGoodQuotient (is_exact mode) p a (inputs 1 0) (outputs 0) (outputs 1)) (same 0 0 (omega arith)) good);
}
