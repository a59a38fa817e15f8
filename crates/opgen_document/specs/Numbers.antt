-- Coefficients: whole numbers, or decimal texts over one denominator.
use Rattle.std.specs.Prelude.{ℕ, ◌+◌, ◌*◌, ◌-◌, ◌^◌, ◌==◌, ◌&&◌, max, Bool, true, false, List, [], ◌∷◌, length, map, take, drop, ℤ, pos, neg_ℤ, Option, Some, None, if◌then◌else◌, nat_lt, nat_le, position}
use Rattle.std.specs.Option.{option_map_or}
use Rattle.std.specs.Char.{is_ascii_digit}
use Rattle.std.specs.List.{list_all}
use Rattle.toml.specs.Data.{Data, string, integer, Items, no_items, item, Members}
use Rattle.opgen_document.specs.declared.decimal.Decimal.{Decimal}
use Rattle.opgen_document.specs.declared.key.Key.TheVariants as key
use Rattle.opgen_document.specs.Document.{value_at, number_at, items_at, list_of}

-- one digit or more
abbrev pub are_digits : List ℕ → Bool
are_digits bytes = nat_lt 0 (length bytes) && list_all is_ascii_digit bytes

-- the number that decimal digits give, read on from a number; `0` is 48
abbrev pub digits_from : ℕ → List ℕ → ℕ
digits_from n [] = n
digits_from n (digit ∷ rest) = digits_from (n * 10 + (digit - 48)) rest

-- one digit or more before the point and some after it, of nine at most in all
abbrev pub are_parts : List ℕ → List ℕ → Bool
are_parts whole places =
    are_digits whole && list_all is_ascii_digit places && nat_le (length whole + length places) 9

abbrev pub decimal_with : Bool → List ℕ → List ℕ → Option Decimal
decimal_with negative whole places =
    if are_parts whole places then
    Some (record {
      negative = negative;
      digits = digits_from (digits_from 0 whole) places;
      places = length places;
    })
    else None

-- cut at the place of the first point, after which one digit or more has to stand
abbrev pub cut_at : Bool → List ℕ → Option ℕ → Option Decimal
cut_at negative body None = decimal_with negative body []
cut_at negative body (Some at) =
    if nat_lt (at + 1) (length body) then decimal_with negative (take at body) (drop (at + 1) body) else None

-- a decimal text without its sign; the point is 46
abbrev pub unsigned_decimal : Bool → List ℕ → Option Decimal
unsigned_decimal negative body = cut_at negative body (position (λ byte. byte == 46) body)

-- A decimal text: optionally `-` (45), then one digit or more, and optionally a point with one digit or more after it;
-- of one to nine digits in all.
abbrev pub decimal_of : List ℕ → Option Decimal
decimal_of [] = None
decimal_of (first ∷ rest) = if first == 45 then unsigned_decimal true rest else unsigned_decimal false (first ∷ rest)

-- a decimal times ten to a power that is not less than its digits after the point
abbrev pub scaled : ℕ → Decimal → ℕ
scaled power d = d.digits * 10 ^ (power - d.places)

abbrev pub numerator : ℕ → Decimal → ℤ
numerator power d = if d.negative then neg_ℤ (pos (scaled power d)) else pos (scaled power d)

-- how many digits an item has after its point, and how many the items have at most
abbrev pub places_in : Data → ℕ
places_in (string text) = option_map_or (λ d. d.places) (decimal_of text) 0
places_in _ = 0

abbrev pub places_among : Items → ℕ
places_among no_items = 0
places_among (item d ds) = max (places_in d) (places_among ds)

-- an item as a numerator over ten to a power
abbrev pub coefficient : ℕ → Data → ℤ
coefficient power (integer n) = n
coefficient power (string text) = option_map_or (numerator power) (decimal_of text) (pos 0)
coefficient power _ = pos 0

-- The numerators of an array. They are over ten to the power of the greatest number of digits after a point, which is 1
-- for whole numbers.
abbrev pub numerators : Items → List ℤ
numerators items = map (coefficient (places_among items)) (list_of items)

-- the coefficients are texts
abbrev pub are_texts : Items → Bool
are_texts (item (string _) _) = true
are_texts _ = false

-- the number at the key of the denominator, or else 1
abbrev pub given_denominator : Members → ℤ
given_denominator ms = option_map_or (λ _. number_at ms key.Denominator) (value_at ms key.Denominator) (pos 1)

-- the common denominator: that of the texts, or else the one that is given
abbrev pub denominator_of : Members → ℤ
denominator_of ms =
    if are_texts (items_at ms key.Coefficients) then pos (10 ^ places_among (items_at ms key.Coefficients))
    else given_denominator ms
