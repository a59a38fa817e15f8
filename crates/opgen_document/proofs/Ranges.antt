-- Numbers that are not out of their bounds, and denominators.
use Rattle.std.proofs.Common.{◌≡◌, ℕ, ◌+◌, ◌≤◌, ◌<◌, ◌^◌, ◌&&◌, ◌==◌, take, drop, position, Bool, true, false, List, [], ◌∷◌, length, Option, Some, None, option_and_then, nat_le, nat_lt, ap, ◌∙◌, sym, arith, refl, if◌then◌else◌}
use Rattle.std.specs.Prelude.{ℤ, pos, negsuc, ◌≤ℤ◌, int_le, int_lt}
use Rattle.std.specs.Option.{option_map_or}
use Rattle.std.proofs.lemmas.Bool.{and_parts, leb-true, lt-ltb}
use Rattle.std.proofs.lemmas.Int.{ints}
use Rattle.std.proofs.Math.Nat.{one-le-pow, pow-le-pow_right}
use Rattle.std.specs.Char.{is_ascii_digit}
use Rattle.std.specs.List.{list_all}
use Rattle.toml.specs.Data.{Data, string, Items, no_items, item, Members}
use Rattle.opgen_document.specs.declared.decimal.Decimal.{Decimal}
use Rattle.opgen_document.specs.declared.key.Key.TheVariants as key
use Rattle.opgen_document.specs.Document.{value_at, number_in, items_at, count, small}
use Rattle.opgen_document.specs.Numbers.{are_digits, digits_from, are_parts, decimal_with, cut_at, unsigned_decimal, decimal_of, places_in, places_among, are_texts, given_denominator, denominator_of}
use Rattle.opgen_document.specs.Ranges.{outside, denominator_outside}

-- a number that is not outside its bounds
pub inside : (low high n : ℤ) → outside low high n ≡ None → (low ≤ℤ n) × (n ≤ℤ high)
inside low high n h = go (int_le low n && int_le n high) refl
  where
    go : (b : Bool) → (int_le low n && int_le n high) ≡ b → (low ≤ℤ n) × (n ≤ℤ high)
    go true e =
        let (above, below) = and_parts (int_le low n) (int_le n high) e in
        let least : low ≤ℤ n = grind (arith, ints) in
        let most : n ≤ℤ high = grind (arith, ints) in
        (least, most)
    go false e =
        let some : Some n ≡ None = ap (λ b. if b then None else Some n) (sym e) ∙ h in
        cc

-- a number whose bounds hold 0, there or not
pub zero_inside : (o : Option Data) (low high : ℤ) → low ≤ℤ pos 0 → pos 0 ≤ℤ high → option_and_then (λ _. outside low high (number_in o)) o
    ≡ None → (low ≤ℤ number_in o) × (number_in o ≤ℤ high)
zero_inside (Some d) low high least most h = inside low high (number_in (Some d)) h
zero_inside None low high least most h = (least, most)

pub counted : (n : ℤ) (low high : ℕ) → pos low ≤ℤ n → n ≤ℤ pos high → high < 2 ^ 32 → (low ≤ count n) × (count n ≤ high)
counted (pos n) low high least most small_high =
    let below : n < 4294967296 = omega (arith, ints) in
    let fits : nat_lt n 4294967296 ≡ true = lt-ltb n 4294967296 below in
    let at_least : low ≤ n = omega (arith, ints) in
    let at_most : n ≤ high = omega (arith, ints) in
    rw fits (at_least, at_most)
counted (negsuc n) low high least most small_high = absurd (omega (arith, ints))

pub small_same : (n : ℤ) → negsuc 63 ≤ℤ n → n ≤ℤ pos 64 → n ≡ small n
small_same n least most =
    let above : int_le (negsuc 2147483647) n ≡ true = grind (arith, ints) in
    let below : int_lt n (pos 2147483648) ≡ true = grind (arith, ints) in
    rw (above, below) refl

-- no more than nine digits stand after a point
abbrev places : Option Decimal → ℕ
places o = option_map_or (λ d. d.places) o 0

with_few : (negative : Bool) (whole after : List ℕ) → places (decimal_with negative whole after) ≤ 9
with_few negative whole after = go (are_parts whole after) refl
  where
    go : (b : Bool) → are_parts whole after ≡ b
        → places (if b then Some (record { negative = negative; digits = digits_from (digits_from 0 whole) after; places = length after })
        else None) ≤ 9
    go true e =
        let (_, few) = and_parts (are_digits whole && list_all is_ascii_digit after) (nat_le (length whole + length after) 9) e in
        let most = leb-true (length whole + length after) 9 few in
        omega (arith, most)
    go false e = omega arith

cut_few : (negative : Bool) (body : List ℕ) (point : Option ℕ) → places (cut_at negative body point) ≤ 9
cut_few negative body None = with_few negative body []
cut_few negative body (Some at) = go (nat_lt (at + 1) (length body))
  where
    go : (b : Bool) → places (if b then decimal_with negative (take at body) (drop (at + 1) body) else None) ≤ 9
    go true = with_few negative (take at body) (drop (at + 1) body)
    go false = omega arith

text_few : (text : List ℕ) → places (decimal_of text) ≤ 9
text_few [] = omega arith
text_few (first ∷ rest) = go (first == 45)
  where
    go : (b : Bool) → places (if b then unsigned_decimal true rest else unsigned_decimal false (first ∷ rest)) ≤ 9
    go true = cut_few true rest (position (λ byte. byte == 46) rest)
    go false = cut_few false (first ∷ rest) (position (λ byte. byte == 46) (first ∷ rest))

item_few : (d : Data) → places_in d ≤ 9
item_few (string text) = text_few text
item_few _ = omega arith

few_places : (items : Items) → places_among items ≤ 9
few_places no_items = omega arith
few_places (item d ds) = omega (arith, item_few d, few_places ds)

ten_power : (k : ℕ) → k ≤ 9 → (1 ≤ 10 ^ k) × (10 ^ k ≤ 1073741824)
ten_power k h =
    let some = one-le-pow k 10 (omega arith) in
    let most : 10 ^ k ≤ 10 ^ 9 = pow-le-pow_right (omega arith) h in
    (some, omega (arith, most))

pub given_in : (ms : Members) → option_and_then (λ _. denominator_outside ms) (value_at ms key.Denominator) ≡ None
    → (pos 1 ≤ℤ given_denominator ms) × (given_denominator ms ≤ℤ pos (2 ^ 30))
given_in ms h = by (value_at ms key.Denominator) h
  where
    by : (o : Option Data) → option_and_then (λ _. outside (pos 1) (pos (2 ^ 30)) (number_in o)) o ≡ None
        → (pos 1 ≤ℤ option_map_or (λ _. number_in o) o (pos 1)) × (option_map_or (λ _. number_in o) o (pos 1) ≤ℤ pos (2 ^ 30))
    by (Some d) h = inside (pos 1) (pos (2 ^ 30)) (number_in (Some d)) h
    by None h = (omega (arith, ints), omega (arith, ints))

pub denominator_in : (ms : Members) → option_and_then (λ _. denominator_outside ms) (value_at ms key.Denominator) ≡ None
    → (pos 1 ≤ℤ denominator_of ms) × (denominator_of ms ≤ℤ pos (2 ^ 30))
denominator_in ms h = go (are_texts (items_at ms key.Coefficients))
  where
    go : (b : Bool) → (pos 1 ≤ℤ (if b then pos (10 ^ places_among (items_at ms key.Coefficients)) else given_denominator ms))
        × ((if b then pos (10 ^ places_among (items_at ms key.Coefficients)) else given_denominator ms) ≤ℤ pos (2 ^ 30))
    go true = let (some, most) = ten_power (places_among (items_at ms key.Coefficients)) (few_places (items_at ms key.Coefficients)) in
        (omega (arith, ints), omega (arith, ints))
    go false = given_in ms h
