-- Coefficients are those that the document writes.
use Rattle.std.proofs.Common.{◌≡◌, ℕ, zero, suc, ◌+◌, ◌*◌, ◌-◌, ◌^◌, ◌≤◌, ◌<◌, ◌&&◌, ◌||◌, ◌==◌, max, not, Bool, true, false, List, [], ◌∷◌, ◌++◌, length, map, take, drop, get_or, position, Option, Some, None, is_some, subst, ◌⊎◌, nat_lt, nat_le, refl, ap, sym, ◌∙◌, ⊎_elim, inl, inr, arith, if◌then◌else◌}
use Rattle.std.specs.Prelude.{ℤ, pos, neg_ℤ, ◌*ℤ◌, All}
use Rattle.std.specs.Char.{is_ascii_digit}
use Rattle.std.specs.List.{list_all}
use Rattle.std.specs.Option.{option_map_or}
use borrow.Author.Tests.{eqb-true}
use Rattle.std.proofs.Math.Nat.{pow-succ'}
use Rattle.std.proofs.lemmas.Bool.{and_parts, leb-true, cases_lt, or_cases}
use Rattle.std.proofs.lemmas.Int.{ints}
use Rattle.std.proofs.lemmas.List.{append-nil, drop_more, length-append, length-drop, take-append-drop}
use Rattle.std.proofs.lemmas.List.Quantifiers.{position-Some}
use Rattle.std.proofs.lemmas.Nat.{pow-add}
use Rattle.opgen_num.proofs.DecimalDigits.{digit_bounds}
use Rattle.toml.specs.Data.{Data, string, integer, Items, no_items, item, Members, as_integer, as_array}
use Rattle.opgen_document.specs.declared.decimal.Decimal.{Decimal}
use Rattle.opgen_document.specs.declared.key.Key.TheVariants as key
use Rattle.opgen_document.specs.Decimals.{IsDigit, number, sign, signed, after_point, IsDecimal, IsNumerator, AreNumerators, HasPlaces, AreDecimals, AreCoefficients}
use Rattle.opgen_document.specs.Document.{list_of, value_at, number_in, number_at, items_of, items_in, items_at}
use Rattle.opgen_document.specs.Types.{are_integers, are_decimals, are_coefficients}
use Rattle.opgen_document.specs.Numbers.{are_digits, digits_from, are_parts, decimal_with, cut_at, unsigned_decimal, decimal_of, scaled, numerator, places_in, places_among, coefficient, numerators, are_texts, denominator_of}

-- digits that are read one by one, by their places
read-number : (n : ℕ) (ds : List ℕ) → digits_from n ds ≡ n * 10 ^ length ds + number ds
read-number n [] = omega arith
read-number n (d ∷ ds) =
    let later = read-number (n * 10 + (d - 48)) ds in
    omega (arith, later, ap (λ p. n * p) (pow-succ' 10 (length ds)))

number-append : (a b : List ℕ) → number (a ++ b) ≡ number a * 10 ^ length b + number b
number-append [] b = omega arith
number-append (d ∷ a) b =
    let power : 10 ^ length (a ++ b) ≡ 10 ^ length a * 10 ^ length b = ap (λ k. 10 ^ k) (length-append a b)
    ∙ pow-add 10 (length a) (length b) in
    omega (arith, number-append a b, ap (λ p. (d - 48) * p) power)

all_digits : (ds : List ℕ) → list_all is_ascii_digit ds ≡ true → All IsDigit ds
all_digits [] h k d lt = absurd (omega arith)
all_digits (b ∷ ds) h zero d lt = digit_bounds b (and_parts (is_ascii_digit b) (list_all is_ascii_digit ds) h).0
all_digits (b ∷ ds) h (suc k) d lt = all_digits ds (and_parts (is_ascii_digit b) (list_all is_ascii_digit ds) h).1 k d (omega arith)

-- what a decimal is made of, after its sign
record IsMadeOf (negative : Bool) (body : List ℕ) (made : Decimal) : Type 0 where
  whole : List ℕ
  fraction : List ℕ
  body_is : body ≡ whole ++ after_point fraction
  some : 1 ≤ length whole
  digits : All IsDigit whole × All IsDigit fraction
  few : length whole + length fraction ≤ 9
  sign_is : made.negative ≡ negative
  value : made.digits ≡ number (whole ++ fraction)
  places : made.places ≡ length fraction

parts_made : (negative : Bool) (whole fraction : List ℕ) (made : Decimal) → decimal_with negative whole fraction ≡ Some made
    → IsMadeOf negative (whole ++ after_point fraction) made
parts_made negative whole fraction made h = go (are_parts whole fraction) refl h
  where
    d : Decimal
    d = record { negative = negative; digits = digits_from (digits_from 0 whole) fraction; places = length fraction }

    go : (b : Bool) → are_parts whole fraction ≡ b → (if b then Some d else None) ≡ Some made
        → IsMadeOf negative (whole ++ after_point fraction) made
    go true e found =
        let same : d ≡ made = cc in
        let (digits, short) = and_parts (are_digits whole && list_all is_ascii_digit fraction)
        (nat_le (length whole + length fraction) 9) e in
        let (left, right) = and_parts (are_digits whole) (list_all is_ascii_digit fraction) digits in
        let (some, each) = and_parts (nat_lt 0 (length whole)) (list_all is_ascii_digit whole) left in
        record {
          whole = whole;
          fraction = fraction;
          body_is = refl;
          some = grind (arith, some);
          digits = (all_digits whole each, all_digits fraction right);
          few = leb-true (length whole + length fraction) 9 short;
          sign_is = ap (λ (m : Decimal). m.negative) (sym same);
          value = ap (λ (m : Decimal). m.digits) (sym same)
              ∙ omega (
                arith,
                read-number (digits_from 0 whole) fraction,
                read-number 0 whole,
                ap (λ n. n * 10 ^ length fraction) (read-number 0 whole),
                number-append whole fraction,
              );
          places = ap (λ (m : Decimal). m.places) (sym same);
        }
    go false e found = cc

with_point : (ds : List ℕ) → 1 ≤ length ds → after_point ds ≡ 46 ∷ ds
with_point [] h = absurd (omega arith)
with_point (d ∷ ds) h = refl

body_made : (negative : Bool) (body : List ℕ) (made : Decimal) → unsigned_decimal negative body ≡ Some made → IsMadeOf negative body made
body_made negative body made h = go (position (λ byte. byte == 46) body) refl h
  where
    go : (o : Option ℕ) → position (λ byte. byte == 46) body ≡ o → cut_at negative body o ≡ Some made → IsMadeOf negative body made
    go None e found = subst (λ (b : List ℕ). IsMadeOf negative b made) (append-nil body) (parts_made negative body [] made found)
    go (Some at) e found =
        let (lt, passes, _) = position-Some (λ byte. byte == 46) body at 0 e in
        let point : get_or body at 0 ≡ 46 = eqb-true (get_or body at 0) 46 passes in
        more (nat_lt (at + 1) (length body)) refl found lt point
      where
        more : (b : Bool) → nat_lt (at + 1) (length body) ≡ b
            → (if b then decimal_with negative (take at body) (drop (at + 1) body) else None) ≡ Some made
            → at < length body → get_or body at 0 ≡ 46 → IsMadeOf negative body made
        more false e found lt point = cc
        more true e found lt point =
            let some : 1 ≤ length (drop (at + 1) body) = grind (arith, length-drop, e) in
            let cut : drop at body ≡ 46 ∷ drop (at + 1) body = drop_more body at 0 lt ∙ ap (λ c. c ∷ drop (at + 1) body) point in
            let joined : take at body ++ after_point (drop (at + 1) body) ≡ body =
            ap (λ rest. take at body ++ rest) (with_point (drop (at + 1) body) some ∙ sym cut) ∙ take-append-drop at body in
            subst (λ (b : List ℕ). IsMadeOf negative b made) joined (parts_made negative (take at body) (drop (at + 1) body) made found)

decimal_written : (text : List ℕ) (made : Decimal) → decimal_of text ≡ Some made
    → IsDecimal text (signed made.negative made.digits) made.places
decimal_written [] made h = cc
decimal_written (first ∷ rest) made h = go (first == 45) refl h
  where
    write : (negative : Bool) (body : List ℕ) → first ∷ rest ≡ sign negative ++ body → IsMadeOf negative body made
        → IsDecimal (first ∷ rest) (signed made.negative made.digits) made.places
    write negative body e m = record {
      negative = negative;
      whole = m.whole;
      fraction = m.fraction;
      text_is = e ∙ ap (λ b. sign negative ++ b) m.body_is;
      some = m.some;
      digits = m.digits;
      few = m.few;
      value = ap (λ n. signed n made.digits) m.sign_is ∙ ap (λ n. signed negative n) m.value;
      places_are = m.places;
    }

    go : (b : Bool) → (first == 45) ≡ b → (if b then unsigned_decimal true rest else unsigned_decimal false (first ∷ rest)) ≡ Some made
        → IsDecimal (first ∷ rest) (signed made.negative made.digits) made.places
    go true e found = write true rest (ap (λ c. c ∷ rest) (eqb-true first 45 e)) (body_made true rest made found)
    go false e found = write false (first ∷ rest) refl (body_made false (first ∷ rest) made found)

-- a numerator is the value times ten to a power
neg-times : (a b : ℕ) → neg_ℤ (pos (a * b)) ≡ neg_ℤ (pos a) *ℤ pos b
neg-times zero b = omega (arith, ints)
neg-times (suc a) b = omega (arith, ints)

numerator-value : (power : ℕ) (d : Decimal) → numerator power d ≡ signed d.negative d.digits *ℤ pos (10 ^ (power - d.places))
numerator-value power d = go d.negative
  where
    go : (b : Bool) → (if b then neg_ℤ (pos (scaled power d)) else pos (scaled power d))
        ≡ signed b d.digits *ℤ pos (10 ^ (power - d.places))
    go true = neg-times d.digits (10 ^ (power - d.places))
    go false = omega (arith, ints)

text_numerator : (power : ℕ) (text : List ℕ) → is_some (decimal_of text) ≡ true → places_in (string text) ≤ power
    → IsNumerator power (string text) (coefficient power (string text))
text_numerator power text some few = go (decimal_of text) refl some few
  where
    go : (o : Option Decimal) → decimal_of text ≡ o → is_some o ≡ true → option_map_or (λ d. d.places) o 0 ≤ power
        → (n : ℤ) × (places : ℕ) × IsDecimal text n places × (places ≤ power)
        × (option_map_or (numerator power) o (pos 0) ≡ n *ℤ pos (10 ^ (power - places)))
    go (Some d) e some few = (signed d.negative d.digits, d.places, decimal_written text d e, few, numerator-value power d)
    go None e some few = cc

texts_numerators : (power : ℕ) (items : Items) → are_decimals items ≡ true → places_among items ≤ power
    → AreNumerators power items (map (coefficient power) (list_of items))
texts_numerators power no_items h few = tt
texts_numerators power (item (string text) rest) h few =
    let (first, later) = and_parts (is_some (decimal_of text)) (are_decimals rest) h in
    (text_numerator power text first (omega (arith, few)), texts_numerators power rest later (omega (arith, few)))
texts_numerators power (item _ rest) h few = cc

text_places : (text : List ℕ) → is_some (decimal_of text) ≡ true → (n : ℤ) × IsDecimal text n (places_in (string text))
text_places text some = go (decimal_of text) refl some
  where
    go : (o : Option Decimal) → decimal_of text ≡ o → is_some o ≡ true → (n : ℤ) × IsDecimal text n (option_map_or (λ d. d.places) o 0)
    go (Some d) e some = (signed d.negative d.digits, decimal_written text d e)
    go None e some = cc

texts_places : (items : Items) → are_decimals items ≡ true → HasPlaces (places_among items) items
texts_places no_items h = refl
texts_places (item (string text) rest) h =
    let (first, later) = and_parts (is_some (decimal_of text)) (are_decimals rest) h in
    ⊎_elim
    (λ (lt : places_in (string text) < places_among rest).
    let most : max (places_in (string text)) (places_among rest) ≡ places_among rest = omega arith in
    subst (λ (p : ℕ). HasPlaces p (item (string text) rest)) (sym most) (inr (texts_places rest later)))
    (λ (ge : places_among rest ≤ places_in (string text)).
    let most : max (places_in (string text)) (places_among rest) ≡ places_in (string text) = omega arith in
    subst (λ (p : ℕ). HasPlaces p (item (string text) rest)) (sym most) (inl (text_places text first)))
    (cases_lt (places_in (string text)) (places_among rest))
texts_places (item _ rest) h = cc

-- whole numbers
integers_numerators : (items : Items) → are_integers items ≡ true → AreNumerators 0 items (map (coefficient 0) (list_of items))
integers_numerators no_items h = tt
integers_numerators (item (integer n) rest) h = ((refl, refl), integers_numerators rest h)
integers_numerators (item _ rest) h = cc

no_places : (items : Items) → are_integers items ≡ true → places_among items ≡ 0
no_places no_items h = refl
no_places (item (integer n) rest) h = omega (arith, no_places rest h)
no_places (item _ rest) h = cc

none_asked : (items : Items) → are_integers items ≡ true → HasPlaces 0 items
none_asked no_items h = refl
none_asked (item (integer n) rest) h = none_asked rest h
none_asked (item _ rest) h = cc

pub integers_written : (items : Items) → are_integers items ≡ true → AreNumerators 0 items (numerators items)
integers_written items h = subst (λ (p : ℕ). AreNumerators 0 items (map (coefficient p) (list_of items))) (sym (no_places items h))
    (integers_numerators items h)

numbers_written : (items : Items) → are_coefficients items ≡ true → AreNumerators (places_among items) items (numerators items)
    × HasPlaces (places_among items) items
numbers_written items h =
    ⊎_elim
    (λ (all : are_integers items ≡ true).
    let none = sym (no_places items all) in (
      subst (λ (p : ℕ). AreNumerators p items (numerators items)) none (integers_written items all),
      subst (λ (p : ℕ). HasPlaces p items) none (none_asked items all),
    ))
    (λ (all : are_decimals items ≡ true). (texts_numerators (places_among items) items all (omega arith), texts_places items all))
    (or_cases (are_integers items) (are_decimals items) h)

decimals_are : (items : Items) → (AreDecimals items → are_texts items ≡ true) × (¬ AreDecimals items → are_texts items ≡ false)
decimals_are no_items = (λ h. absurd h, λ h. refl)
decimals_are (item (string text) rest) = (λ h. refl, λ h. absurd (h tt))
decimals_are (item _ rest) = (λ h. absurd h, λ h. refl)

-- a value that is not of a wrong type
array_typed : (o : Option Data) → option_map_or (λ d. not (are_coefficients (items_of d) && is_some (as_array d)) || false) o false ≡ false
    → are_coefficients (items_in o) ≡ true
array_typed None h = refl
array_typed (Some d) h = both (are_coefficients (items_of d)) (is_some (as_array d)) h
  where
    both : (a b : Bool) → (not (a && b) || false) ≡ false → a ≡ true
    both true b h = refl
    both false b h = cc

pub numbers_typed : (o : Option Data) → option_map_or (λ d. not (are_integers (items_of d) && is_some (as_array d)) || false) o false
    ≡ false → are_integers (items_in o) ≡ true
numbers_typed None h = refl
numbers_typed (Some d) h = both (are_integers (items_of d)) (is_some (as_array d)) h
  where
    both : (a b : Bool) → (not (a && b) || false) ≡ false → a ≡ true
    both true b h = refl
    both false b h = cc

number_given : (o : Option Data) (clash : Bool) → option_map_or (λ d. not (is_some (as_integer d)) || clash) o false ≡ false
    → (o ≡ Some (integer (option_map_or (λ _. number_in o) o (pos 1)))) ⊎
    ((o ≡ None) × (option_map_or (λ _. number_in o) o (pos 1) ≡ pos 1))
number_given None clash h = inr (refl, refl)
number_given (Some (integer n)) clash h = inl refl
number_given (Some _) clash h = cc

pub coefficients_written : (ms : Members)
    → option_map_or (λ d. not (are_coefficients (items_of d) && is_some (as_array d)) || false) (value_at ms key.Coefficients) false ≡ false
    → option_map_or (λ d. not (is_some (as_integer d)) || are_texts (items_at ms key.Coefficients)) (value_at ms key.Denominator) false
    ≡ false
    → AreCoefficients ms (numerators (items_at ms key.Coefficients)) (denominator_of ms)
coefficients_written ms typed given =
    let items = items_at ms key.Coefficients in
    let all = numbers_written items (array_typed (value_at ms key.Coefficients) typed) in
    let (texts, numbers) = decimals_are items in
    let d = option_map_or (λ _. number_at ms key.Denominator) (value_at ms key.Denominator) (pos 1) in
    record {
      power = places_among items;
      numerators = all.0;
      greatest = all.1;
      of_decimals = λ h. ap (λ b. if b then pos (10 ^ places_among items) else d) (texts h);
      of_numbers = λ h. subst (λ (b : Bool). (value_at ms key.Denominator ≡ Some (integer (if b then pos (10 ^ places_among items) else d)))
          ⊎ ((value_at ms key.Denominator ≡ None) × ((if b then pos (10 ^ places_among items) else d) ≡ pos 1)))
          (sym (numbers h)) (number_given (value_at ms key.Denominator) (are_texts items) given);
    }
