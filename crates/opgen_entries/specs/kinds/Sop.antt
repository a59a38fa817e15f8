-- A sum of products of inputs, which the document names.
use Rattle.std.specs.Prelude.{◌≡◌, ◌==◌, ◌&&◌, ◌+◌, ℕ, ℤ, pos, not, Bool, IsTrue, false, List, [], Option, Some, None, is_some, option_map, unwrap_or, slice_get, if◌then◌else◌}
use Rattle.std.specs.List.{position}
use Rattle.std.specs.Option.{option_map_or}
use Rattle.std.specs.Str.{bytes_eq}
use Rattle.opgen_terms.specs.declared.sop.Scaled.{Scaled}
use Rattle.opgen_terms.specs.declared.sop.Sop.{Sop}
use Rattle.opgen_terms.specs.declared.sop.Times.{Times}
use Rattle.opgen_operator.specs.declared.operator.Operator.TheVariants as operator
use Rattle.opgen_operator.specs.GivenNames.{is_port_name}
use Rattle.opgen_ports.specs.Modes.{mode_of_exact}
use Rattle.opgen_ports.specs.Recipes.{compressor_of, has_counters, is_of_bits}
use Rattle.opgen_ports.specs.declared.ports.PortFormat.{PortFormat}
use Rattle.toml.specs.Data.{Data, string, integer, boolean, table, Items, Members}
use Rattle.opgen_num.specs.declared.limits.TheConstants.{MAX_SCALED}
use Rattle.opgen_document.specs.declared.key.Key.{Key}
use Rattle.opgen_document.specs.declared.key.Key.TheVariants as key
use Rattle.opgen_document.specs.declared.key.Stand.{Stand}
use Rattle.opgen_document.specs.declared.key.Stand.TheVariants.{Absent, Optional, Needed}
use Rattle.opgen_document.specs.Document.{value_at, number_at, text_at, flag_at, items_at, list_of, is_empty, in_tables, count, count_at, small_at, counters_at, AreLinesAsWritten, IsFlagAsWritten, IsNumberAsWritten, IsCompressorAsWritten, version_of, since_second, since_third, since_fourth}
use Rattle.opgen_document.specs.Numbers.{given_denominator}
use Rattle.opgen_document.specs.Ranges.{length_outside, power_outside, out_width_outside, numerator_outside, denominator_outside, rounding_outside, overflow_outside, compressor_at_outside, lut_outside}
use Rattle.opgen_document.specs.declared.key.Version.{Version}
use Rattle.opgen_document.specs.declared.key.Version.TheVariants.{First, Second, Third, Fourth}
use Rattle.opgen_entries.specs.Entry.{Entry}

abbrev pub stand : Version → Key → Stand
stand version key.Rounding = since_fourth version
stand version key.OutLsb = Needed
stand version key.OutWidth = since_third version
stand version key.OutSigned = since_third version
stand version key.Overflow = since_fourth version
stand version key.Denominator = Optional
stand version key.Compressor = since_second version
stand version key.Lut = since_fourth version
stand version key.Offset = Optional
stand version key.Input = Needed
stand version key.Scaled = Optional
stand version key.Product = Optional
stand version _ = Absent

-- Names of inputs

-- the name of an input, by its table
abbrev pub name_in : Data → List ℕ
name_in (table ms) = text_at ms key.InputName
name_in _ = []

-- the place, from 0, of the first input that has the name
abbrev pub input_named : (inputs : Items) → List ℕ → Option ℕ
input_named inputs name = position (λ d. bytes_eq (name_in d) name) (list_of inputs)

-- the first input of the name is that of the line, from 1
abbrev pub is_first_named : (inputs : Items) → ℕ → List ℕ → Bool
is_first_named inputs line name = option_map_or (λ place. place + 1 == line) (input_named inputs name) false

-- a name that an input may not have: one that no port may have, that of the document, or that of an earlier input
abbrev pub name_outside : Members → ℕ → List ℕ → Option ℤ
name_outside doc line name =
    if is_port_name name && not (bytes_eq name (text_at doc key.Name)) && is_first_named (items_at doc key.Input) line name then None
    else Some (pos line)

-- a factor that no input is
abbrev pub factor_outside : Members → ℕ → Members → Key → Option ℤ
factor_outside doc line ms k = if is_some (input_named (items_at doc key.Input) (text_at ms k)) then None else Some (pos line)

-- Ranges

-- how many inputs and products the documents of a version may have
abbrev pub most_inputs : Version → ℕ
most_inputs First = 16
most_inputs Second = 16
most_inputs Third = 16
most_inputs Fourth = 48

abbrev pub most_products : Version → ℕ
most_products First = 16
most_products Second = 16
most_products Third = 16
most_products Fourth = 32

-- neither constants times inputs nor products of inputs
abbrev pub has_no_terms : Members → Bool
has_no_terms ms = is_empty (items_at ms key.Scaled) && is_empty (items_at ms key.Product)

abbrev pub scaled_outside : Members → Option ℤ
scaled_outside ms = if has_no_terms ms then Some (pos 0) else length_outside 0 MAX_SCALED (items_at ms key.Scaled)

abbrev pub key_outside : Members → Key → Option ℤ
key_outside ms key.Rounding = rounding_outside ms
key_outside ms key.OutLsb = power_outside ms key.OutLsb
key_outside ms key.OutWidth = out_width_outside ms
key_outside ms key.Denominator = denominator_outside ms
key_outside ms key.Compressor = compressor_at_outside ms
key_outside ms key.Offset = numerator_outside ms key.Offset
key_outside ms key.Input = length_outside 1 (most_inputs (version_of ms)) (items_at ms key.Input)
key_outside ms key.Scaled = scaled_outside ms
key_outside ms key.Product = length_outside 0 (most_products (version_of ms)) (items_at ms key.Product)
key_outside ms key.Overflow = overflow_outside ms
key_outside ms key.Lut = lut_outside ms
key_outside ms _ = None

-- The operator

-- the place of an input of the name; a document without a fault has one
abbrev pub place_of : (inputs : Items) → List ℕ → ℕ
place_of inputs name = count (pos (unwrap_or (input_named inputs name) 0))

abbrev pub input_of : Members → PortFormat
input_of ms = record {
  name = text_at ms key.InputName;
  format = record { signed = flag_at ms key.InputSigned; width = count_at ms key.InputWidth; lsb = small_at ms key.InputLsb };
}

abbrev pub scaled_of : (inputs : Items) → Members → Scaled
scaled_of inputs ms =
    record { input = place_of inputs (text_at ms key.ScaledInput); coefficient = number_at ms key.Coefficient }

abbrev pub times_of : (inputs : Items) → Members → Times
times_of inputs ms = record {
  a = place_of inputs (text_at ms key.FactorA);
  b = place_of inputs (text_at ms key.FactorB);
  negative = flag_at ms key.Negative;
}

abbrev pub sop_of : Members → Sop
sop_of ms = record {
  inputs = in_tables input_of (items_at ms key.Input);
  scaled = in_tables (scaled_of (items_at ms key.Input)) (items_at ms key.Scaled);
  products = in_tables (times_of (items_at ms key.Input)) (items_at ms key.Product);
  offset = number_at ms key.Offset;
  den = given_denominator ms;
  out_lsb = small_at ms key.OutLsb;
  mode = mode_of_exact (flag_at ms key.Exact);
  compressor = compressor_of (counters_at ms);
  lut = 6;
}

-- What is written

pub record IsInputAsWritten (ms : Members) (p : PortFormat) : Type 0 where
  pub name_written : value_at ms key.InputName ≡ Some (string p.name)
  pub signed_written : value_at ms key.InputSigned ≡ Some (boolean p.format.signed)
  pub width_written : value_at ms key.InputWidth ≡ Some (integer (pos p.format.width))
  pub lsb_written : value_at ms key.InputLsb ≡ Some (integer p.format.lsb)

-- the value at a key is the name of the input at a place
abbrev pub IsNameOf : (inputs : List PortFormat) (place : ℕ) → Members → Key → Type 0
IsNameOf inputs place ms k = value_at ms k ≡ option_map (λ (p : PortFormat). string p.name) (slice_get inputs place)

pub record IsScaledAsWritten (inputs : List PortFormat) (ms : Members) (t : Scaled) : Type 0 where
  pub input : IsNameOf inputs t.input ms key.ScaledInput
  pub coefficient : value_at ms key.Coefficient ≡ Some (integer t.coefficient)

pub record IsTimesAsWritten (inputs : List PortFormat) (ms : Members) (t : Times) : Type 0 where
  pub a : IsNameOf inputs t.a ms key.FactorA
  pub b : IsNameOf inputs t.b ms key.FactorB
  pub negative : IsFlagAsWritten ms key.Negative t.negative

pub record IsSopAsWritten (ms : Members) (s : Sop) : Type 0 where
  pub inputs : AreLinesAsWritten IsInputAsWritten (items_at ms key.Input) s.inputs
  pub scaled : AreLinesAsWritten (IsScaledAsWritten s.inputs) (items_at ms key.Scaled) s.scaled
  pub products : AreLinesAsWritten (IsTimesAsWritten s.inputs) (items_at ms key.Product) s.products
  pub offset : IsNumberAsWritten ms key.Offset (pos 0) s.offset
  pub den : IsNumberAsWritten ms key.Denominator (pos 1) s.den
  pub out_lsb : value_at ms key.OutLsb ≡ Some (integer s.out_lsb)
  pub compressor : IsTrue (is_of_bits s.compressor) × IsCompressorAsWritten ms (has_counters s.compressor)

abbrev pub sop : Entry
sop = record { first = false; stand = stand; key_outside = key_outside; clashes = λ ms k. false; make = λ ms. operator.Sop (sop_of ms) }
