-- A word taken off zeros, and what it is in two's complement.
use Rattle.std.proofs.Common.{◌≡◌, ℕ, zero, suc, ◌+◌, ◌-◌, ◌*◌, ◌^◌, ◌<◌, ◌≤◌, Bool, true, false, List, [], ◌∷◌, length, map, take, drop, cond, refl, sym, ap, ◌∙◌, subst, arith, not}
use Rattle.std.specs.Prelude.{pos, ◌-ℤ◌, unsigned_abs}
use Rattle.std.proofs.lemmas.Int.{ints}
use Rattle.std.proofs.lemmas.List.{length-map}
use Rattle.std.proofs.lemmas.Nat.{pow_pos}
use Rattle.opgen_num.specs.Words.{sum_with, highest, int, nat, word}
use Rattle.opgen_num.specs.WordLaws.{length-word, nat-word}
use Rattle.opgen_num.proofs.Carries.{sum-carry, nat-not}
use Rattle.opgen_num.proofs.Values.{highest_weight, int-low, int-high}
use Rattle.opgen_num.proofs.Words.{nat-below}
use Rattle.opgen_design.specs.Value.{cut, chosen}
use Rattle.opgen_design.proofs.WidthLaws.{length-sum_with}
use Rattle.opgen_divide.specs.Sign.{signed_by}

-- the highest bit of a word
drop-last : (n : ℕ) (v : List Bool) → length v ≡ suc n → drop n v ≡ highest v ∷ []
drop-last zero [] e = absurd (omega (arith, e))
drop-last zero (b ∷ []) e = refl
drop-last zero (b ∷ c ∷ v) e = absurd (omega (arith, e))
drop-last (suc n) [] e = absurd (omega (arith, e))
drop-last (suc n) (b ∷ []) e = absurd (omega (arith, e))
drop-last (suc n) (b ∷ c ∷ v) e = drop-last n (c ∷ v) (omega (arith, e))

pub top-bit : (v : List Bool) (m : ℕ) → 1 ≤ m → length v ≡ m → cut (m - 1) (m - 1) v ≡ highest v ∷ []
top-bit v m some e =
    let long : length v ≡ suc (m - 1) = omega (arith, some, e) in
    let one : m - 1 + 1 - (m - 1) ≡ suc zero = omega arith in
    ap (λ k. take k (drop (m - 1) v)) one ∙ ap (take (suc zero)) (drop-last (m - 1) v long)

-- a word of one bit
pub one-bit : (v : List Bool) → length v ≡ 1 → v ≡ highest v ∷ []
one-bit [] e = absurd (omega (arith, e))
one-bit (b ∷ []) e = refl
one-bit (b ∷ c ∷ v) e = absurd (omega (arith, e))

pub picked : (b : Bool) (x y : List Bool) → chosen (b ∷ []) x y ≡ cond b x y
picked true x y = refl
picked false x y = refl

-- the last carry of a difference from 0
last_carry : (f p n c : ℕ) → f + p * c + n ≡ p → f < p → n < p → (n ≡ 0 → f ≡ 0) × (0 < n → f + n ≡ p)
last_carry f p n zero e low less = (λ h. absurd (omega (arith, e, h, low)), λ h. omega (arith, e))
last_carry f p n (suc zero) e low less = (λ h. omega (arith, e, h), λ h. absurd (omega (arith, e, h)))
last_carry f p n (suc (suc c)) e low less = absurd (omega (arith, e, low, less))

module _ (v : List Bool) where
  abbrev zeros : List Bool
  zeros = word (length v) 0

  abbrev pub opposite : List Bool
  opposite = sum_with true zeros (map not v)

  power : 0 < 2 ^ length v
  power = pow_pos (length v)

  same : length zeros ≡ length (map not v)
  same = length-word (length v) 0 ∙ sym (length-map v not)

  pub opposite-length : length opposite ≡ length v
  opposite-length = length-sum_with true zeros (map not v) same ∙ length-word (length v) 0

  pub opposite-number : (nat v ≡ 0 → nat opposite ≡ 0) × (0 < nat v → nat opposite + nat v ≡ 2 ^ length v)
  opposite-number =
      let c = sum-carry true zeros (map not v) same in
      let none : nat zeros ≡ 0 = nat-word (length v) 0 power in
      let raised : 2 ^ length zeros * c.0 ≡ 2 ^ length v * c.0 = ap (λ k. 2 ^ k * c.0) (length-word (length v) 0) in
      let below : nat opposite < 2 ^ length v = subst (λ k. nat opposite < 2 ^ k) opposite-length (nat-below opposite) in
      last_carry (nat opposite) (2 ^ length v) (nat v) c.0 (omega (arith, c.1, none, raised, nat-not v)) below (nat-below v)

  -- the opposite number, where the highest bit is 0
  pub opposite-int : 2 * nat v < 2 ^ length v → int opposite ≡ signed_by true (nat v)
  opposite-int low = go (nat v) refl
    where
      go : (n : ℕ) → n ≡ nat v → int opposite ≡ signed_by true n
      go zero e =
          let nothing : nat opposite ≡ 0 = opposite-number.0 (sym e) in
          let small : 2 * nat opposite < 2 ^ length opposite =
          omega (arith, nothing, ap (λ k. 2 ^ k) opposite-length, power) in
          int-low opposite small ∙ ap pos nothing ∙ omega (arith, ints)
      go (suc n) e =
          let whole = opposite-number.1 (omega (arith, e)) in
          let same_power = ap (λ k. 2 ^ k) opposite-length in
          let large : 2 ^ length opposite ≤ 2 * nat opposite = omega (arith, whole, same_power, low) in
          int-high opposite large ∙ omega (arith, ints, whole, same_power, e)

  pub signed-int : (sign : Bool) → 2 * nat v < 2 ^ length v → int (cond sign opposite v) ≡ signed_by sign (nat v)
  signed-int true low = opposite-int low
  signed-int false low = int-low v low

  -- a number below 0 is taken off
  above_zero : 1 ≤ length v → highest v ≡ true → 0 < nat v
  above_zero = go v
    where
      go : (w : List Bool) → 1 ≤ length w → highest w ≡ true → 0 < nat w
      go [] some h = absurd (omega (arith, some))
      go (b ∷ w) some h =
          let weight = (highest_weight b w).0 in
          let top : cond (highest (b ∷ w)) (2 ^ length w) 0 ≡ 2 ^ length w = ap (λ (c : Bool). cond c (2 ^ length w) 0) h in
          omega (arith, weight, top, pow_pos (length w))

  pub absolute-number : 1 ≤ length v → nat (cond (highest v) opposite v) ≡ unsigned_abs (int v)
  absolute-number some = go (highest v) refl
    where
      go : (top : Bool) → highest v ≡ top
          → nat (cond top opposite v) ≡ unsigned_abs (pos (nat v) -ℤ pos (cond top (2 ^ length v) 0))
      go true e =
          let whole = opposite-number.1 (above_zero some e) in
          omega (arith, ints, whole)
      go false e = omega (arith, ints)
