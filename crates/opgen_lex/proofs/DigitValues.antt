-- Digits read one by one.
use Rattle.std.specs.Prelude.{if◌then◌else◌}
use Rattle.std.proofs.Common.{◌≡◌, ℕ, suc, ◌+◌, ◌*◌, ◌-◌, ◌≤◌, ◌<◌, true, nat_lt, List, [], ◌∷◌, length, drop, get_or, Some, None, refl, ap, ◌∙◌, arith, drop-cons}
use Rattle.std.proofs.lemmas.Bool.{lt-ltb, le-ltb}
use Rattle.std.specs.Char.{is_ascii_digit, digit_value}
use Rattle.std.specs.Str.Parse.{digits_value_after}
use Rattle.std.specs.List.{list_all}
use Rattle.opgen_num.specs.declared.format.TheConstants.{MAX_WIDTH}
use Rattle.opgen_num.proofs.DecimalDigits.{digit_at}
use Rattle.opgen_vhdl.specs.Grammar.{value}

digit_is : (b : ℕ) → 48 ≤ b → b ≤ 57 → digit_value b ≡ b - 48
digit_is b low high = rw (le-ltb b 48 low, lt-ltb b 58 (omega (arith, high))) refl

-- one digit more
pub read_digit : (digits : List ℕ) (n i : ℕ) → list_all is_ascii_digit digits ≡ true → i < length digits →
    digits_value_after 10 n (drop i digits) ≡ digits_value_after 10 (n * 10 + (get_or digits i 0 - 48)) (drop (suc i) digits)
read_digit digits n i all lt =
    let (low, high) = digit_at digits i all lt in
    ap (digits_value_after 10 n) (drop-cons digits i 0 lt)
    ∙ ap (λ d. digits_value_after 10 (n * 10 + d) (drop (suc i) digits)) (digit_is (get_or digits i 0) low high)

-- reading on makes a number no less
grows : (n : ℕ) (ds : List ℕ) → n ≤ digits_value_after 10 n ds
grows n [] = omega arith
grows n (d ∷ ds) = omega (arith, grows (n * 10 + digit_value d) ds)

pub no_index : (digits : List ℕ) (n i : ℕ) → digits_value_after 10 n (drop i digits) ≡ value digits → MAX_WIDTH ≤ n → None
    ≡ (if nat_lt (value digits) MAX_WIDTH then Some (value digits) else None)
no_index digits n i e h = rw (le-ltb (value digits) MAX_WIDTH (omega (arith, e, h, grows n (drop i digits)))) refl
