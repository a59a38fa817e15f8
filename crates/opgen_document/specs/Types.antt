-- The type of the value at each key.
use Rattle.std.specs.Prelude.{◌&&◌, ◌||◌, not, Bool, false, is_some, is_none}
use Rattle.std.specs.List.{list_all}
use Rattle.std.specs.Option.{option_map_or}
use Rattle.toml.specs.Data.{Data, string, Items, Members, as_str, as_integer, as_bool, as_array, as_table}
use Rattle.opgen_document.specs.declared.key.Key.{Key}
use Rattle.opgen_document.specs.declared.key.Key.TheVariants as key
use Rattle.opgen_document.specs.declared.key.Sort.{Sort}
use Rattle.opgen_document.specs.declared.key.Sort.TheVariants.{Number, Text, Flag, Coefficients, Numbers, Tables}
use Rattle.opgen_document.specs.Keys.{sort_of}
use Rattle.opgen_document.specs.Document.{list_of, value_at, flag_at, items_of, items_at}
use Rattle.opgen_document.specs.Numbers.{decimal_of, are_texts}

abbrev pub is_decimal : Data → Bool
is_decimal (string text) = is_some (decimal_of text)
is_decimal _ = false

abbrev pub is_integer : Data → Bool
is_integer d = is_some (as_integer d)

abbrev pub is_table : Data → Bool
is_table d = is_some (as_table d)

abbrev pub are_integers : Items → Bool
are_integers items = list_all is_integer (list_of items)

abbrev pub are_decimals : Items → Bool
are_decimals items = list_all is_decimal (list_of items)

abbrev pub are_tables : Items → Bool
are_tables items = list_all is_table (list_of items)

-- whole numbers, or decimal texts
abbrev pub are_coefficients : Items → Bool
are_coefficients items = are_integers items || are_decimals items

abbrev pub is_of : Sort → Data → Bool
is_of Number d = is_integer d
is_of Text d = is_some (as_str d)
is_of Flag d = is_some (as_bool d)
is_of Coefficients d = are_coefficients (items_of d) && is_some (as_array d)
is_of Numbers d = are_integers (items_of d) && is_some (as_array d)
is_of Tables d = are_tables (items_of d) && is_some (as_array d)

abbrev pub fits : Key → Data → Bool
fits k d = is_of (sort_of k) d

-- there may be no rounding beside exact outputs; beside decimal texts, which have their own, no denominator; and no sign or overflow
-- of the output without its width
abbrev pub clashes : Members → Key → Bool
clashes ms key.Rounding = flag_at ms key.Exact
clashes ms key.Denominator = are_texts (items_at ms key.Coefficients)
clashes ms key.OutSigned = is_none (value_at ms key.OutWidth)
clashes ms key.Overflow = is_none (value_at ms key.OutWidth)
clashes ms _ = false

abbrev pub is_wrong : Members → Key → Bool
is_wrong ms k = option_map_or (λ d. not (fits k d) || clashes ms k) (value_at ms k) false
