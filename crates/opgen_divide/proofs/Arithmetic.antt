-- A step of a division on numbers, and what a quotient with a remainder is to a fraction.
use Rattle.std.proofs.Common.{◌≡◌, ℕ, ◌+◌, ◌-◌, ◌*◌, ◌%◌, ◌^◌, ◌<◌, ◌≤◌, Bool, true, false, refl, sym, ap, ◌∙◌, subst, arith, inl, inr, nat_le}
use Rattle.std.specs.Prelude.{if◌then◌else◌}
use Rattle.std.proofs.Math.Nat.{mod-eq_of_lt}
use Rattle.std.proofs.lemmas.Bool.{cases_lt, le-leb, lt-leb}
use Rattle.opgen_num.specs.Rounding.{IsQuotient}
use Rattle.opgen_num.specs.Words.{digit}
use Rattle.opgen_digits.specs.Digit.{left_of}
use Rattle.opgen_nonrestoring.specs.Steps.{IsQuotientOf}
use Rattle.opgen_divide.specs.Steps.{IsDivided}

-- the next bit of the numerator, and the next digit of the quotient
module _ (w n b q r d a : ℕ) (h : IsQuotient n b q r) (low : d < 2) (small : b < 2 ^ w) (is : a ≡ 2 * r + d) where
  abbrev next : ℕ
  next = 2 * q + digit (nat_le b a)

  less : a < b → IsQuotient (2 * n + d) b next (left_of a b % 2 ^ w)
  less l =
      let no = lt-leb b a l in
      let all : a % 2 ^ w ≡ a = mod-eq_of_lt (omega (arith, l, small)) in
      let left : left_of a b % 2 ^ w ≡ a = ap (λ (c : Bool). (if c then a - b else a) % 2 ^ w) no ∙ all in
      let zero : digit (nat_le b a) ≡ 0 = ap digit no in
      let whole : next * b ≡ 2 * (q * b) = ap (λ k. (2 * q + k) * b) zero ∙ omega arith in
      (omega (arith, whole, left, h.0, is), omega (arith, left, l))

  more : b ≤ a → IsQuotient (2 * n + d) b next (left_of a b % 2 ^ w)
  more l =
      let yes = le-leb b a l in
      let below : a - b < b = omega (arith, l, is, h.1, low) in
      let all : (a - b) % 2 ^ w ≡ a - b = mod-eq_of_lt (omega (arith, below, small)) in
      let left : left_of a b % 2 ^ w ≡ a - b = ap (λ (c : Bool). (if c then a - b else a) % 2 ^ w) yes ∙ all in
      let one : digit (nat_le b a) ≡ 1 = ap digit yes in
      let whole : next * b ≡ 2 * (q * b) + b = ap (λ k. (2 * q + k) * b) one ∙ omega arith in
      (omega (arith, whole, left, h.0, is, l), omega (arith, left, below))

  pub next_digit : IsQuotient (2 * n + d) b next (left_of a b % 2 ^ w)
  next_digit = elim (cases_lt a b) [ inl l ↦ less l | inr l ↦ more l ]

-- a division of the same numbers
pub same_quotient : (n b q r m c y s : ℕ) → n ≡ m → b ≡ c → q ≡ y → r ≡ s → IsQuotient n b q r → IsQuotient m c y s
same_quotient n b q r m c y s e f g h d =
    subst (λ k. IsQuotient k c y s) e
    (subst (λ k. IsQuotient n k y s) f (subst (λ k. IsQuotient n b k s) g (subst (λ k. IsQuotient n b q k) h d)))

pub same_division : (keep : Bool) (n b q r m c y s : ℕ) → n ≡ m → b ≡ c → q ≡ y → r ≡ s → IsDivided keep n b q r → IsDivided keep m c y s
same_division true n b q r m c y s e f g h d = same_quotient n b q r m c y s e f g h d
same_division false n b q r m c y s e f g h d = (d.0, same_quotient n b q d.0 m c y d.0 e f g refl d.1)

pub some_rest : (keep : Bool) (n b q r : ℕ) → IsDivided keep n b q r → (rest : ℕ) × IsQuotient n b q rest
some_rest true n b q r h = (r, h)
some_rest false n b q r h = h

pub kept_rest : (keep : Bool) (n b q r : ℕ) → keep ≡ true → IsDivided keep n b q r → IsQuotient n b q r
kept_rest true n b q r e h = h
kept_rest false n b q r e h = absurd (cc)

-- a rest that is kept where another is
pub kept_where : (keep exact : Bool) (n b q r : ℕ) → (exact ≡ true → keep ≡ true) → IsDivided keep n b q r → IsDivided exact n b q r
kept_where keep true n b q r e h = kept_rest keep n b q r (e refl) h
kept_where keep false n b q r e h = some_rest keep n b q r h

-- a quotient of a division without restoring
pub divided_of : (exact : Bool) (n b q r : ℕ) → IsQuotientOf exact n b q r → IsDivided exact n b q r
divided_of true n b q r h = subst (IsQuotient n b q) (sym (h.remainder refl)) h.quotient
divided_of false n b q r h = (n - q * b, h.quotient)

pub is_divided : (keep : Bool) (n b q r : ℕ) → IsQuotient n b q r → IsDivided keep n b q r
is_divided true n b q r h = h
is_divided false n b q r h = (r, h)
