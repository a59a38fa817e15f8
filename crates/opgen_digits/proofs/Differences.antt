-- The numbers of differences and of parts of words.
use Rattle.std.proofs.Common.{◌≡◌, ℕ, zero, suc, ◌+◌, ◌-◌, ◌*◌, ◌%◌, ◌^◌, ◌<◌, ◌≤◌, Bool, true, false, List, [], ◌∷◌, length, map, take, drop, refl, sym, ap, ◌∙◌, subst, arith, inl, inr, nat_le, not}
use Rattle.std.specs.Prelude.{if◌then◌else◌}
use Rattle.std.proofs.Math.Nat.{two-pow-succ}
use Rattle.std.proofs.lemmas.Bool.{cases_lt, le-leb, lt-leb}
use Rattle.std.proofs.lemmas.List.{length-drop, length-map}
use Rattle.opgen_num.specs.Words.{digit, nat, sum_with}
use Rattle.opgen_num.proofs.Carries.{sum-carry, nat-not}
use Rattle.opgen_num.proofs.Cuts.{nat-parts, take-below, nat-take}
use Rattle.opgen_num.proofs.Words.{nat-below}
use Rattle.opgen_design.specs.Value.{cut, chosen}
use Rattle.opgen_design.proofs.WidthLaws.{length-sum_with}
use Rattle.opgen_digits.specs.Digit.{left_of}

-- a word by its highest bit and those below it
pub highest : (n : ℕ) (w : List Bool) → length w ≡ n + 1 → (b : Bool) × (cut n n w ≡ b ∷ []) × (nat w ≡ nat (take n w) + digit b * 2 ^ n)
highest n w h =
    let one = alone (drop n w) (omega (arith, h, length-drop n w)) in
    let e : n + 1 - n ≡ suc zero = omega arith in
    let above : nat (drop n w) ≡ digit one.0 = ap nat one.1 ∙ omega arith in (
      one.0,
      ap (λ k. take k (drop n w)) e ∙ ap (take (suc zero)) one.1,
      omega (arith, nat-parts n w, ap (λ m. m * 2 ^ n) above),
    )
  where
    alone : (w : List Bool) → length w ≡ 1 → (b : Bool) × (w ≡ b ∷ [])
    alone [] h = absurd (omega (arith, h))
    alone (b ∷ []) h = (b, refl)
    alone (b ∷ c ∷ w) h = absurd (omega (arith, h))

-- the carry of a difference is 1 where it is not negative, and else 0
borrowed : (f a b half p c : ℕ) → f + p * c + b ≡ a + p → f < p → a < half → b < half → p ≡ half + half
    → (b ≤ a → f + b ≡ a) × (a < b → f + b ≡ a + p)
borrowed f a b half p zero e below low high two = (λ h. absurd (omega (arith, e, below, low, h)), λ h. omega (arith, e))
borrowed f a b half p (suc zero) e below low high two = (λ h. omega (arith, e), λ h. absurd (omega (arith, e, h)))
borrowed f a b half p (suc (suc c)) e below low high two = absurd (omega (arith, e, low, high, two))

-- words whose highest bits are 0
module _ (n : ℕ) (x y : List Bool) (wide_x : length x ≡ n + 1) (wide_y : length y ≡ n + 1) (low_x : nat x < 2 ^ n)
    (low_y : nat y < 2 ^ n) where
  abbrev difference : List Bool
  difference = sum_with true x (map not y)

  turned : length x ≡ length (map not y)
  turned = wide_x ∙ sym wide_y ∙ sym (length-map y not)

  pub difference-width : length difference ≡ n + 1
  difference-width = length-sum_with true x (map not y) turned ∙ wide_x

  power : 2 ^ (n + 1) ≡ 2 ^ n + 2 ^ n
  power = let e : n + 1 ≡ suc n = omega arith in ap (λ k. 2 ^ k) e ∙ two-pow-succ n

  number : (nat y ≤ nat x → nat difference + nat y ≡ nat x) × (nat x < nat y → nat difference + nat y ≡ nat x + 2 ^ (n + 1))
  number =
      let c = sum-carry true x (map not y) turned in
      let same_x : 2 ^ length x * c.0 ≡ 2 ^ (n + 1) * c.0 = ap (λ k. 2 ^ k * c.0) wide_x in
      let same_y : 2 ^ length y ≡ 2 ^ (n + 1) = ap (λ k. 2 ^ k) wide_y in
      let below : nat difference < 2 ^ (n + 1) = subst (λ k. nat difference < 2 ^ k) difference-width (nat-below difference) in
      borrowed (nat difference) (nat x) (nat y) (2 ^ n) (2 ^ (n + 1)) c.0
      (omega (arith, c.1, same_x, same_y, nat-not y)) below low_x low_y power

  -- the highest bit of the difference is 0 where it is not negative
  pub sign : map not (cut n n difference) ≡ nat_le (nat y) (nat x) ∷ []
  sign =
      let top = highest n difference difference-width in
      let which : not top.0 ≡ nat_le (nat y) (nat x) = elim (cases_lt (nat x) (nat y)) [
        | inl l ↦ is_one top.0 top.2 (number.1 l) l ∙ sym (lt-leb (nat y) (nat x) l)
        | inr l ↦ is_zero top.0 top.2 (number.0 l) ∙ sym (le-leb (nat y) (nat x) l)
      ] in
      ap (map not) top.1 ∙ ap (λ (b : Bool). b ∷ []) which
    where
      is_one : (b : Bool) → nat difference ≡ nat (take n difference) + digit b * 2 ^ n → nat difference + nat y ≡ nat x + 2 ^ (n + 1)
          → nat x < nat y → not b ≡ false
      is_one true e f l = refl
      is_one false e f l = absurd (omega (arith, e, f, l, power, low_y, take-below n difference))

      is_zero : (b : Bool) → nat difference ≡ nat (take n difference) + digit b * 2 ^ n → nat difference + nat y ≡ nat x → not b ≡ true
      is_zero true e f = absurd (omega (arith, e, f, low_x))
      is_zero false e f = refl

  -- the lowest bits of the difference where it is not negative, and else those of the first word
  pub restored : (rest : ℕ) → 1 ≤ rest
      → nat (chosen (nat_le (nat y) (nat x) ∷ []) (cut (rest - 1) 0 difference) (cut (rest - 1) 0 x)) ≡ left_of (nat x) (nat y) % 2 ^ rest
  restored rest some =
      elim (cases_lt (nat x) (nat y)) [
        | inl l ↦ let no = lt-leb (nat y) (nat x) l in
            ap (λ (b : Bool). nat (chosen (b ∷ []) (cut (rest - 1) 0 difference) (cut (rest - 1) 0 x))) no
            ∙ lowest x
            ∙ ap (λ (b : Bool). (if b then nat x - nat y else nat x) % 2 ^ rest) (sym no)
        | inr l ↦ let yes = le-leb (nat y) (nat x) l in
            let less : nat difference ≡ nat x - nat y = omega (arith, number.0 l) in
            ap (λ (b : Bool). nat (chosen (b ∷ []) (cut (rest - 1) 0 difference) (cut (rest - 1) 0 x))) yes
            ∙ lowest difference
            ∙ ap (λ k. k % 2 ^ rest) less
            ∙ ap (λ (b : Bool). (if b then nat x - nat y else nat x) % 2 ^ rest) (sym yes)
      ]
    where
      lowest : (w : List Bool) → nat (cut (rest - 1) 0 w) ≡ nat w % 2 ^ rest
      lowest w =
          let e : rest - 1 + 1 - 0 ≡ rest = omega (arith, some) in
          ap (λ k. nat (take k w)) e ∙ nat-take rest w
