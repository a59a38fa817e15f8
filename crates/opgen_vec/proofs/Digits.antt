-- Digits in base 16, and the numbers that they stand for.
use Rattle.std.proofs.Common.{◌≡◌, ℕ, zero, suc, ◌+◌, ◌*◌, ◌/◌, ◌%◌, ◌^◌, ◌<◌, Bool, true, false, cond, List, [], ◌∷◌, length, map, Some, None, refl, sym, ap, ◌∙◌, arith}
use Rattle.std.specs.Prelude.{nat_lt}
use Rattle.std.specs.Char.{digit_char, digit_value, to_ascii_lowercase}
use Rattle.std.proofs.Math.Nat.{div-div-eq-div-mul, pow-succ', mul_comm}
use Rattle.std.proofs.lemmas.Bool.Decides.{nat_tests}
use Rattle.opgen_vec.specs.Rows.{hex_text}
use Rattle.opgen_vec.specs.Digits.{hex_value}

-- a digit in lower case
lower-digit : (c : ℕ) → digit_value c < 16 → to_ascii_lowercase c ≡ digit_char (digit_value c)
lower-digit c h = grind (arith, nat_tests)

digit-lower : (c d : ℕ) → d < 16 → to_ascii_lowercase c ≡ digit_char d → digit_value c ≡ d
digit-lower c d small e = grind (arith, nat_tests)

place-above : (n k : ℕ) → n / 16 ^ k / 16 ≡ n / 16 ^ suc k
place-above n k = div-div-eq-div-mul n (16 ^ k) 16 ∙ ap (λ m. n / m) (mul_comm (16 ^ k) 16 ∙ sym (pow-succ' 16 k))

units : (n : ℕ) → n / 16 ^ 0 ≡ n
units n = omega arith

pub length-hex_text : (k n : ℕ) → length (hex_text k n) ≡ k
length-hex_text zero n = refl
length-hex_text (suc k) n = ap suc (length-hex_text k n)

-- the digits of a number, read back
pub hex_value-text : (before n : ℕ) (digits : List ℕ) → map to_ascii_lowercase digits ≡ hex_text (length digits) n → n / 16 ^ length digits
    ≡ before → hex_value before digits ≡ Some n
hex_value-text before n [] e top = ap Some (sym top ∙ units n)
hex_value-text before n (c ∷ digits) e top =
    let k = length digits in
    let d : ℕ = n / 16 ^ k % 16 in
    let small : d < 16 = omega arith in
    let first : to_ascii_lowercase c ≡ digit_char d = cc in
    let is : digit_value c ≡ d = digit-lower c d small first in
    let others : map to_ascii_lowercase digits ≡ hex_text k n = cc in
    let above : n / 16 ^ k / 16 ≡ before = place-above n k ∙ top in
    let next : n / 16 ^ k ≡ before * 16 + digit_value c = omega (arith, is, above) in
    let tests : nat_lt (digit_value c) 16 ≡ true = grind (arith, nat_tests, is, small) in
    ap (λ b. cond b (hex_value (before * 16 + digit_value c) digits) None) tests
    ∙ hex_value-text (before * 16 + digit_value c) n digits others next

-- what is read has these digits
pub text-hex_value : (before n : ℕ) (digits : List ℕ) → hex_value before digits ≡ Some n
    → (map to_ascii_lowercase digits ≡ hex_text (length digits) n) × (n / 16 ^ length digits ≡ before)
text-hex_value before n [] e = (refl, (let same : before ≡ n = cc in units n ∙ sym same))
text-hex_value before n (c ∷ digits) e = go (nat_lt (digit_value c) 16) refl e (text-hex_value (before * 16 + digit_value c) n digits)
  where
    k : ℕ
    k = length digits

    go : (b : Bool) → nat_lt (digit_value c) 16 ≡ b → cond b (hex_value (before * 16 + digit_value c) digits) None ≡ Some n
        → (hex_value (before * 16 + digit_value c) digits ≡ Some n → (map to_ascii_lowercase digits ≡ hex_text (length digits) n)
        × (n / 16 ^ length digits ≡ before * 16 + digit_value c))
        → (map to_ascii_lowercase (c ∷ digits) ≡ hex_text (suc (length digits)) n) × (n / 16 ^ suc (length digits) ≡ before)
    go true is e later =
        let (others, above) = later e in
        let small : digit_value c < 16 = grind (arith, nat_tests, is) in
        let unit : digit_value c ≡ n / 16 ^ length digits % 16 = omega (arith, above, small) in
        let top : n / 16 ^ length digits / 16 ≡ before = omega (arith, above, small) in
        let first : to_ascii_lowercase c ≡ digit_char (n / 16 ^ length digits % 16) = lower-digit c small ∙ ap digit_char unit in (
          (let e : map to_ascii_lowercase (c ∷ digits) ≡ hex_text (suc (length digits)) n = cc in e),
          sym (place-above n (length digits))
              ∙ top,
        )
    go false is e later = cc
