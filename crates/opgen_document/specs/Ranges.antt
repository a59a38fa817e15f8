-- What stands at a key and is out of its range: a number or a length that is not within bounds, or an element beyond a limit.
use Rattle.std.specs.Prelude.{ℕ, ◌&&◌, ◌||◌, Bool, true, false, List, length, codes, ℤ, pos, neg_ℤ, int_le, unsigned_abs, Option, Some, None, find, if◌then◌else◌, nat_lt}
use Rattle.std.specs.Option.{option_or}
use Rattle.std.specs.Str.{bytes_eq}
use Rattle.toml.specs.Data.{Items, Members}
use Rattle.opgen_num.specs.declared.limits.TheConstants.{MAX_CONSTANT, MAX_DENOMINATOR, MAX_NEAR_LSB, MAX_NUMERATOR, MAX_SEARCHED_CONSTANT}
use Rattle.opgen_num.specs.declared.format.TheConstants.{MAX_LSB, MAX_WIDTH}
use Rattle.opgen_document.specs.declared.key.Key.{Key}
use Rattle.opgen_document.specs.declared.key.Key.TheVariants as key
use Rattle.opgen_document.specs.Document.{list_of, number_at, text_at, flag_at, items_at, version_of}
use Rattle.opgen_document.specs.Numbers.{numerators}
use Rattle.opgen_document.specs.declared.key.Version.{Version}
use Rattle.opgen_document.specs.declared.key.Version.TheVariants.{First, Second, Third, Fourth}

-- the number, where it is not within the bounds
abbrev pub outside : ℤ → ℤ → ℤ → Option ℤ
outside low high n = if int_le low n && int_le n high then None else Some n

-- the first number of an array that is beyond a limit, above or below
abbrev pub is_beyond : (limit : ℕ) → ℤ → Bool
is_beyond limit n = nat_lt limit (unsigned_abs n)

abbrev pub first_beyond : (limit : ℕ) → Items → Option ℤ
first_beyond limit items = find (is_beyond limit) (numerators items)

abbrev pub length_outside : (least most : ℕ) → Items → Option ℤ
length_outside least most items = outside (pos least) (pos most) (pos (length (list_of items)))

-- the length of an array, or else its first number, that is out of bounds
abbrev pub array_outside : (least most limit : ℕ) → Items → Option ℤ
array_outside least most limit items = option_or (length_outside least most items) (first_beyond limit items)

-- keys that several kinds have

-- the width of an input that may have so many bits at most; signed inputs have two or more
abbrev pub bits_outside : (signed : Bool) (most : ℕ) → ℤ → Option ℤ
bits_outside signed most n = outside (pos (if signed then 2 else 1)) (pos most) n

abbrev pub width_outside : (most : ℕ) → Members → Key → Option ℤ
width_outside most ms k = bits_outside (flag_at ms key.Signed) most (number_at ms k)

-- the power of a lowest bit: of quotients and roots in each version, and of the other kinds in versions 1 and 2
abbrev pub near_outside : Members → Key → Option ℤ
near_outside ms k = outside (neg_ℤ MAX_NEAR_LSB) MAX_NEAR_LSB (number_at ms k)

-- the power of a lowest bit of the other kinds from version 3 on, but for polynomials
abbrev pub far_outside : Members → Key → Option ℤ
far_outside ms k = outside (neg_ℤ MAX_LSB) MAX_LSB (number_at ms k)

abbrev pub power_outside_in : Version → Members → Key → Option ℤ
power_outside_in First ms k = near_outside ms k
power_outside_in Second ms k = near_outside ms k
power_outside_in Third ms k = far_outside ms k
power_outside_in Fourth ms k = far_outside ms k

abbrev pub power_outside : Members → Key → Option ℤ
power_outside ms k = power_outside_in (version_of ms) ms k

-- the width of an output that is chosen
abbrev pub out_width_outside : Members → Option ℤ
out_width_outside ms = outside (pos 2) (pos MAX_WIDTH) (number_at ms key.OutWidth)

abbrev pub coefficients_outside : (least most : ℕ) → Members → Option ℤ
coefficients_outside least most ms = array_outside least most MAX_NUMERATOR (items_at ms key.Coefficients)

-- a whole number over the denominator
abbrev pub numerator_outside : Members → Key → Option ℤ
numerator_outside ms k = outside (neg_ℤ (pos MAX_NUMERATOR)) (pos MAX_NUMERATOR) (number_at ms k)

abbrev pub denominator_outside : Members → Option ℤ
denominator_outside ms = outside (pos 1) MAX_DENOMINATOR (number_at ms key.Denominator)

-- the greatest constant or tap of a graph that is searched for, and of one that a fixed rule makes
abbrev pub constant_limit : (searched : Bool) → ℕ
constant_limit true = MAX_SEARCHED_CONSTANT
constant_limit false = MAX_CONSTANT

-- the adders that a graph may have beyond the least number
abbrev pub extra_outside : Members → Option ℤ
extra_outside ms = outside (pos 0) (pos 2) (number_at ms key.Extra)

-- a text that is neither of two words, of which its length is found
abbrev pub word_outside : (first second : List ℕ) → List ℕ → Option ℤ
word_outside first second text = if bytes_eq text first || bytes_eq text second then None else Some (pos (length text))

abbrev pub compressor_outside : List ℕ → Option ℤ
compressor_outside name = word_outside (codes "dadda") (codes "counters") name

-- the fourth version has a third compressor
abbrev pub compressor_outside_in : Version → List ℕ → Option ℤ
compressor_outside_in First name = compressor_outside name
compressor_outside_in Second name = compressor_outside name
compressor_outside_in Third name = compressor_outside name
compressor_outside_in Fourth name = if bytes_eq name (codes "rows") then None else compressor_outside name

abbrev pub compressor_at_outside : Members → Option ℤ
compressor_at_outside ms = compressor_outside_in (version_of ms) (text_at ms key.Compressor)

abbrev pub rounding_outside : Members → Option ℤ
rounding_outside ms = word_outside (codes "down") (codes "nearest") (text_at ms key.Rounding)

abbrev pub overflow_outside : Members → Option ℤ
overflow_outside ms = word_outside (codes "saturate") (codes "wrap") (text_at ms key.Overflow)

abbrev pub recurrence_outside : Members → Option ℤ
recurrence_outside ms = word_outside (codes "restoring") (codes "nonrestoring") (text_at ms key.Recurrence)

-- the number of inputs of a device's tables
abbrev pub lut_outside : Members → Option ℤ
lut_outside ms = outside (pos 4) (pos 6) (number_at ms key.Lut)
