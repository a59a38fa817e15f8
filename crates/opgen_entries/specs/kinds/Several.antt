-- Products of an input by several constants.
use Rattle.std.specs.Prelude.{◌≡◌, Bool, ℤ, true, false, Option, Some, None}
use Rattle.opgen_kinds.specs.declared.several.Several.{Several}
use Rattle.opgen_operator.specs.declared.operator.Operator.TheVariants as operator
use Rattle.opgen_ports.specs.declared.recipes.Recipe.TheVariants.{Third}
use Rattle.toml.specs.Data.{boolean, Items, Members}
use Rattle.opgen_document.specs.declared.key.Key.{Key}
use Rattle.opgen_document.specs.declared.key.Key.TheVariants as key
use Rattle.opgen_document.specs.declared.key.Stand.{Stand}
use Rattle.opgen_document.specs.declared.key.Stand.TheVariants.{Absent, Needed}
use Rattle.opgen_document.specs.Decimals.{AreNumerators}
use Rattle.opgen_document.specs.Document.{value_at, items_at, count_at, format_at, IsInputAsWritten, IsSearchAsWritten, needed_before_third, is_searched}
use Rattle.opgen_document.specs.Numbers.{numerators}
use Rattle.opgen_document.specs.Ranges.{power_outside, array_outside, constant_limit, extra_outside}
use Rattle.opgen_document.specs.declared.key.Version.{Version}
use Rattle.opgen_entries.specs.Entry.{Entry, input_outside}

abbrev pub stand : Version → Key → Stand
stand version key.Signed = Needed
stand version key.Width = Needed
stand version key.Lsb = Needed
stand version key.Constants = Needed
stand version key.Extra = needed_before_third version
stand version _ = Absent

-- constants as an array, whose adder graph is searched for or not
abbrev pub constants_outside : (searched : Bool) → Items → Option ℤ
constants_outside searched items = array_outside 1 8 (constant_limit searched) items

abbrev pub key_outside : Members → Key → Option ℤ
key_outside ms key.Width = input_outside ms key.Width
key_outside ms key.Lsb = power_outside ms key.Lsb
key_outside ms key.Constants = constants_outside (is_searched ms) (items_at ms key.Constants)
key_outside ms key.Extra = extra_outside ms
key_outside ms _ = None

abbrev pub several_of : Members → Several
several_of ms = record {
  input = format_at ms key.Width key.Lsb;
  constants = numerators (items_at ms key.Constants);
  searched = is_searched ms;
  extra = count_at ms key.Extra;
  recipe = Third;
}

pub record IsSeveralAsWritten (ms : Members) (m : Several) : Type 0 where
  pub signed : value_at ms key.Signed ≡ Some (boolean m.input.signed)
  pub input : IsInputAsWritten ms key.Width key.Lsb m.input
  pub constants : AreNumerators 0 (items_at ms key.Constants) m.constants
  pub search : IsSearchAsWritten ms m.searched m.extra

abbrev pub mcm : Entry
mcm = record { first = true; stand = stand; key_outside = key_outside; clashes = λ ms k. false; make = λ ms. operator.Mcm (several_of ms) }
