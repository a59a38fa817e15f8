-- A transposed filter.
use Rattle.std.specs.Prelude.{◌≡◌, ◌⊎◌, Bool, ℤ, pos, true, false, Option, Some, None}
use Rattle.std.specs.Option.{option_or, option_map_or}
use Rattle.opgen_kinds.specs.declared.taps.Taps.{Taps}
use Rattle.opgen_operator.specs.declared.operator.Operator.TheVariants as operator
use Rattle.opgen_num.specs.declared.mode.Mode.TheVariants.{Faithful}
use Rattle.opgen_ports.specs.declared.recipes.Recipe.TheVariants.{Third}
use Rattle.opgen_ports.specs.OddParts.{odd_part_count}
use Rattle.toml.specs.Data.{boolean, integer, Items, Members}
use Rattle.opgen_num.specs.declared.limits.TheConstants.{MAX_SEARCHED_TAPS, MAX_TAPS}
use Rattle.opgen_document.specs.declared.key.Key.{Key}
use Rattle.opgen_document.specs.declared.key.Key.TheVariants as key
use Rattle.opgen_document.specs.declared.key.Stand.{Stand}
use Rattle.opgen_document.specs.declared.key.Stand.TheVariants.{Absent, Needed}
use Rattle.opgen_document.specs.Decimals.{AreNumerators}
use Rattle.opgen_document.specs.Document.{value_at, items_at, count_at, small_at, format_at, IsInputAsWritten, IsSearchAsWritten, since_third, since_fourth, needed_before_third, is_searched}
use Rattle.opgen_document.specs.Numbers.{numerators}
use Rattle.opgen_document.specs.Ranges.{outside, array_outside, power_outside, out_width_outside, constant_limit, extra_outside, rounding_outside, overflow_outside}
use Rattle.opgen_document.specs.declared.key.Version.{Version}
use Rattle.opgen_entries.specs.Entry.{Entry, input_outside}

abbrev pub stand : Version → Key → Stand
stand version key.Rounding = since_fourth version
stand version key.Signed = Needed
stand version key.Width = Needed
stand version key.Lsb = Needed
stand version key.OutLsb = since_third version
stand version key.OutWidth = since_third version
stand version key.OutSigned = since_third version
stand version key.Overflow = since_fourth version
stand version key.Taps = Needed
stand version key.Extra = needed_before_third version
stand version _ = Absent

-- more than eight different odd parts, of which the number is found
abbrev pub parts_outside : Items → Option ℤ
parts_outside items = outside (pos 0) (pos 8) (pos (odd_part_count (numerators items)))

-- taps as an array, whose adder graph is searched for or not; a search takes few odd parts
abbrev pub taps_outside : (searched : Bool) → Items → Option ℤ
taps_outside true items = option_or (array_outside 1 MAX_SEARCHED_TAPS (constant_limit true) items) (parts_outside items)
taps_outside false items = array_outside 1 MAX_TAPS (constant_limit false) items

abbrev pub key_outside : Members → Key → Option ℤ
key_outside ms key.Rounding = rounding_outside ms
key_outside ms key.Width = input_outside ms key.Width
key_outside ms key.Lsb = power_outside ms key.Lsb
key_outside ms key.OutLsb = power_outside ms key.OutLsb
key_outside ms key.OutWidth = out_width_outside ms
key_outside ms key.Taps = taps_outside (is_searched ms) (items_at ms key.Taps)
key_outside ms key.Extra = extra_outside ms
key_outside ms key.Overflow = overflow_outside ms
key_outside ms _ = None

-- the power of the output's lowest bit: that of the input's where the document does not say it
abbrev pub out_lsb_of : Members → ℤ
out_lsb_of ms = option_map_or (λ _. small_at ms key.OutLsb) (value_at ms key.OutLsb) (small_at ms key.Lsb)

abbrev pub taps_of : Members → Taps
taps_of ms = record {
  input = format_at ms key.Width key.Lsb;
  out_lsb = out_lsb_of ms;
  taps = numerators (items_at ms key.Taps);
  searched = is_searched ms;
  extra = count_at ms key.Extra;
  mode = Faithful;
  recipe = Third;
}

pub record IsTapsAsWritten (ms : Members) (f : Taps) : Type 0 where
  pub signed : value_at ms key.Signed ≡ Some (boolean f.input.signed)
  pub input : IsInputAsWritten ms key.Width key.Lsb f.input
  pub out_lsb : (value_at ms key.OutLsb ≡ Some (integer f.out_lsb)) ⊎ ((value_at ms key.OutLsb ≡ None) × (f.out_lsb ≡ f.input.lsb))
  pub taps : AreNumerators 0 (items_at ms key.Taps) f.taps
  pub search : IsSearchAsWritten ms f.searched f.extra

abbrev pub tfir : Entry
tfir = record { first = false; stand = stand; key_outside = key_outside; clashes = λ ms k. false; make = λ ms. operator.Tfir (taps_of ms) }
