-- A scale or a filter: sums of an input's numbers by coefficients.
use Rattle.std.specs.Prelude.{◌≡◌, ℕ, ℤ, IsTrue, true, false, Option, Some, None}
use Rattle.opgen_kinds.specs.declared.sum.Sum.{Sum}
use Rattle.opgen_operator.specs.declared.operator.Operator.TheVariants as operator
use Rattle.opgen_ports.specs.Modes.{mode_of_exact}
use Rattle.opgen_ports.specs.Recipes.{compressor_of, has_counters, is_of_bits}
use Rattle.toml.specs.Data.{boolean, integer, Members}
use Rattle.opgen_num.specs.declared.limits.TheConstants.{MAX_TAPS}
use Rattle.opgen_document.specs.declared.key.Key.{Key}
use Rattle.opgen_document.specs.declared.key.Key.TheVariants as key
use Rattle.opgen_document.specs.declared.key.Stand.{Stand}
use Rattle.opgen_document.specs.declared.key.Stand.TheVariants.{Absent, Optional, Needed}
use Rattle.opgen_document.specs.Decimals.{AreCoefficients}
use Rattle.opgen_document.specs.Document.{value_at, flag_at, items_at, small_at, format_at, counters_at, IsInputAsWritten, IsCompressorAsWritten, since_second, since_third, since_fourth}
use Rattle.opgen_document.specs.Numbers.{numerators, denominator_of}
use Rattle.opgen_document.specs.Ranges.{power_outside, out_width_outside, coefficients_outside, denominator_outside, rounding_outside, overflow_outside, compressor_at_outside, lut_outside}
use Rattle.opgen_document.specs.declared.key.Version.{Version}
use Rattle.opgen_entries.specs.Entry.{Entry, input_outside}

-- how a key stands in a document of a version
abbrev pub stand : Version → Key → Stand
stand version key.Rounding = since_fourth version
stand version key.Signed = Needed
stand version key.Width = Needed
stand version key.Lsb = Needed
stand version key.OutLsb = Needed
stand version key.OutWidth = since_third version
stand version key.OutSigned = since_third version
stand version key.Overflow = since_fourth version
stand version key.Coefficients = Needed
stand version key.Denominator = Optional
stand version key.Compressor = since_second version
stand version key.Lut = since_fourth version
stand version _ = Absent

-- what is out of range at a key, of an operator with so many coefficients at most
abbrev pub key_outside : (most : ℕ) → Members → Key → Option ℤ
key_outside most ms key.Rounding = rounding_outside ms
key_outside most ms key.Width = input_outside ms key.Width
key_outside most ms key.Lsb = power_outside ms key.Lsb
key_outside most ms key.OutLsb = power_outside ms key.OutLsb
key_outside most ms key.OutWidth = out_width_outside ms
key_outside most ms key.Coefficients = coefficients_outside 1 most ms
key_outside most ms key.Denominator = denominator_outside ms
key_outside most ms key.Compressor = compressor_at_outside ms
key_outside most ms key.Overflow = overflow_outside ms
key_outside most ms key.Lut = lut_outside ms
key_outside most ms _ = None

abbrev pub sum_of : Members → Sum
sum_of ms = record {
  input = format_at ms key.Width key.Lsb;
  out_lsb = small_at ms key.OutLsb;
  coefs = numerators (items_at ms key.Coefficients);
  den = denominator_of ms;
  mode = mode_of_exact (flag_at ms key.Exact);
  compressor = compressor_of (counters_at ms);
  lut = 6;
}

pub record IsSumAsWritten (ms : Members) (s : Sum) : Type 0 where
  pub signed : value_at ms key.Signed ≡ Some (boolean s.input.signed)
  pub input : IsInputAsWritten ms key.Width key.Lsb s.input
  pub out_lsb : value_at ms key.OutLsb ≡ Some (integer s.out_lsb)
  pub coefs : AreCoefficients ms s.coefs s.den
  pub compressor : IsTrue (is_of_bits s.compressor) × IsCompressorAsWritten ms (has_counters s.compressor)

-- the kinds: a scale has one coefficient, and a filter more
abbrev pub scale : Entry
scale = record { first = true; stand = stand; key_outside = key_outside 1; clashes = λ ms k. false; make = λ ms. operator.Scale (sum_of ms) }

abbrev pub fir : Entry
fir = record { first = true; stand = stand; key_outside = key_outside MAX_TAPS; clashes = λ ms k. false; make = λ ms. operator.Fir (sum_of ms) }
