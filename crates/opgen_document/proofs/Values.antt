-- Values that are there and of their types stand in the document as they are read.
use Rattle.std.proofs.Common.{◌≡◌, ℕ, ◌<◌, ◌^◌, ◌||◌, not, true, false, Option, Some, None, is_some, is_none, nat_lt, refl, ap, ◌∙◌, arith}
use Rattle.std.specs.Prelude.{ℤ, pos, negsuc, ◌≤ℤ◌}
use Rattle.std.specs.Option.{option_map_or}
use Rattle.std.proofs.lemmas.Bool.{lt-ltb}
use Rattle.std.proofs.lemmas.Int.{ints}
use Rattle.toml.specs.Data.{Data, string, integer, boolean, as_integer, as_str, as_bool}
use Rattle.opgen_document.specs.Document.{number_in, text_in, flag_in, count, small}
use Rattle.opgen_document.proofs.Ranges.{small_same}

-- a value is not of a wrong type, if there is one: it is a number, a text or a truth value
abbrev pub IsNumber : Option Data → Type 0
IsNumber o = option_map_or (λ d. not (is_some (as_integer d)) || false) o false ≡ false

abbrev pub IsText : Option Data → Type 0
IsText o = option_map_or (λ d. not (is_some (as_str d)) || false) o false ≡ false

abbrev pub IsFlag : Option Data → Type 0
IsFlag o = option_map_or (λ d. not (is_some (as_bool d)) || false) o false ≡ false

pub number_stands : (o : Option Data) → is_none o ≡ false → IsNumber o → o ≡ Some (integer (number_in o))
number_stands (Some (integer n)) there typed = refl
number_stands (Some _) there typed = cc
number_stands None there typed = cc

pub text_stands : (o : Option Data) → is_none o ≡ false → IsText o → o ≡ Some (string (text_in o))
text_stands (Some (string text)) there typed = refl
text_stands (Some _) there typed = cc
text_stands None there typed = cc

pub flag_stands : (o : Option Data) → is_none o ≡ false → IsFlag o → o ≡ Some (boolean (flag_in o))
flag_stands (Some (boolean flag)) there typed = refl
flag_stands (Some _) there typed = cc
flag_stands None there typed = cc

-- a number in its range is its own count
count_same : (n : ℤ) (low high : ℕ) → pos low ≤ℤ n → n ≤ℤ pos high → high < 2 ^ 32 → n ≡ pos (count n)
count_same (pos n) low high least most few =
    let below : n < 4294967296 = omega (arith, ints) in
    let fits : nat_lt n 4294967296 ≡ true = lt-ltb n 4294967296 below in
    rw fits refl
count_same (negsuc n) low high least most few = absurd (omega (arith, ints))

pub count_written : (o : Option Data) (low high : ℕ) → is_none o ≡ false → IsNumber o → (pos low ≤ℤ number_in o) × (number_in o ≤ℤ pos high)
    → high < 2 ^ 32 → o ≡ Some (integer (pos (count (number_in o))))
count_written o low high there typed (least, most) few =
    number_stands o there typed ∙ ap (λ n. Some (integer n)) (count_same (number_in o) low high least most few)

pub small_written : (o : Option Data) → is_none o ≡ false → IsNumber o → (negsuc 63 ≤ℤ number_in o) × (number_in o ≤ℤ pos 64)
    → o ≡ Some (integer (small (number_in o)))
small_written o there typed (least, most) =
    number_stands o there typed ∙ ap (λ n. Some (integer n)) (small_same (number_in o) least most)
