-- A step of a square root on numbers, and what a root with a remainder is to the true root.
use Rattle.std.proofs.Common.{◌≡◌, ℕ, zero, suc, ◌+◌, ◌-◌, ◌*◌, ◌%◌, ◌^◌, ◌<◌, ◌≤◌, Bool, true, false, refl, ap, ◌∙◌, subst, arith, inl, inr, nat_le}
use Rattle.std.specs.Prelude.{if◌then◌else◌}
use Rattle.std.proofs.Math.Nat.{mod-eq_of_lt}
use Rattle.std.proofs.lemmas.Bool.{cases_lt, le-leb, lt-leb}
use Rattle.opgen_num.specs.Rounding.{IsRoot, IsGoodRoot}
use Rattle.opgen_num.specs.Words.{digit}
use Rattle.opgen_digits.specs.Digit.{left_of}
use Rattle.opgen_sqrt.specs.Steps.{IsRooted}

-- the next two bits of the radicand, and the next digit of the root
module _ (w n y r d a b : ℕ) (h : IsRoot n y r) (low : d < 4) (small : 4 * y + 2 < 2 ^ w) (is_a : a ≡ 4 * r + d)
    (is_b : b ≡ 4 * y + 1) where
  abbrev next : ℕ
  next = 2 * y + digit (nat_le b a)

  less : a < b → IsRoot (4 * n + d) next (left_of a b % 2 ^ w)
  less l =
      let no = lt-leb b a l in
      let all : a % 2 ^ w ≡ a = mod-eq_of_lt (omega (arith, l, is_b, small)) in
      let left : left_of a b % 2 ^ w ≡ a = ap (λ (c : Bool). (if c then a - b else a) % 2 ^ w) no ∙ all in
      let same : next ≡ 2 * y = ap (λ c. 2 * y + digit c) no ∙ omega arith in
      let square : next * next ≡ 4 * (y * y) = ap (λ k. k * k) same ∙ omega arith in
      (omega (arith, square, left, h.0, is_a), omega (arith, same, left, l, is_b))

  more : b ≤ a → IsRoot (4 * n + d) next (left_of a b % 2 ^ w)
  more l =
      let yes = le-leb b a l in
      let below : a - b < 4 * y + 3 = omega (arith, l, is_a, is_b, h.1, low) in
      let all : (a - b) % 2 ^ w ≡ a - b = mod-eq_of_lt (omega (arith, below, small)) in
      let left : left_of a b % 2 ^ w ≡ a - b = ap (λ (c : Bool). (if c then a - b else a) % 2 ^ w) yes ∙ all in
      let same : next ≡ 2 * y + 1 = ap (λ c. 2 * y + digit c) yes ∙ omega arith in
      let square : next * next ≡ 4 * (y * y) + 4 * y + 1 = ap (λ k. k * k) same ∙ omega arith in
      (omega (arith, square, left, h.0, is_a, is_b, l), omega (arith, same, left, below))

  pub next_digit : IsRoot (4 * n + d) next (left_of a b % 2 ^ w)
  next_digit = elim (cases_lt a b) [ inl l ↦ less l | inr l ↦ more l ]

-- a root with its remainder is less than one from the true root
pub near : (n y r : ℕ) → IsRoot n y r → IsGoodRoot n y
near n zero r h = (omega (arith, h.0, h.1), inl refl)
near n (suc y) r h =
    let e : suc y - 1 ≡ y = omega arith in
    let square : (suc y - 1) * (suc y - 1) ≡ y * y = ap (λ k. k * k) e in
    (omega (arith, h.0, h.1), inr (omega (arith, square, h.0)))

-- a root of the same numbers
pub same_root : (n y r m z s : ℕ) → n ≡ m → y ≡ z → r ≡ s → IsRoot n y r → IsRoot m z s
same_root n y r m z s e f g h = subst (λ k. IsRoot k z s) e (subst (λ k. IsRoot n k s) f (subst (λ k. IsRoot n y k) g h))

pub same_rooting : (keep : Bool) (n y r m z s : ℕ) → n ≡ m → y ≡ z → r ≡ s → IsRooted keep n y r → IsRooted keep m z s
same_rooting true n y r m z s e f g h = same_root n y r m z s e f g h
same_rooting false n y r m z s e f g h = (h.0, same_root n y h.0 m z h.0 e f refl h.1)

pub some_rest : (keep : Bool) (n y r : ℕ) → IsRooted keep n y r → (rest : ℕ) × IsRoot n y rest
some_rest true n y r h = (r, h)
some_rest false n y r h = h

pub kept_rest : (keep : Bool) (n y r : ℕ) → keep ≡ true → IsRooted keep n y r → IsRoot n y r
kept_rest true n y r e h = h
kept_rest false n y r e h = absurd (cc)

pub is_rooted : (keep : Bool) (n y r : ℕ) → IsRoot n y r → IsRooted keep n y r
is_rooted true n y r h = h
is_rooted false n y r h = (r, h)
