-- A polynomial of an input below 1.
use Rattle.std.specs.Prelude.{◌≡◌, ℤ, pos, negsuc, neg_ℤ, false, Option, Some, None}
use Rattle.toml.specs.Data.{integer, Members}
use Rattle.opgen_kinds.specs.declared.poly.Poly.{Poly as Polynomial}
use Rattle.opgen_operator.specs.declared.operator.Operator.TheVariants as operator
use Rattle.opgen_ports.specs.declared.recipes.Compressor.TheVariants.{Dadda}
use Rattle.opgen_document.specs.declared.key.Key.{Key}
use Rattle.opgen_document.specs.declared.key.Key.TheVariants as key
use Rattle.opgen_document.specs.declared.key.Stand.{Stand}
use Rattle.opgen_document.specs.declared.key.Stand.TheVariants.{Absent, Optional, Needed}
use Rattle.opgen_num.specs.declared.format.Format.{Format}
use Rattle.opgen_document.specs.Decimals.{AreCoefficients}
use Rattle.opgen_document.specs.Document.{value_at, number_at, items_at, count_at, small, small_at, since_third, since_fourth}
use Rattle.opgen_document.specs.Numbers.{numerators, denominator_of}
use Rattle.opgen_document.specs.Ranges.{outside, width_outside, out_width_outside, coefficients_outside, denominator_outside, overflow_outside, compressor_at_outside}
use Rattle.opgen_document.specs.declared.key.Version.{Version}
use Rattle.opgen_entries.specs.Entry.{Entry}

abbrev pub stand : Version → Key → Stand
stand version key.Width = Needed
stand version key.OutLsb = Needed
stand version key.OutWidth = since_third version
stand version key.OutSigned = since_third version
stand version key.Overflow = since_fourth version
stand version key.Coefficients = Needed
stand version key.Denominator = Optional
stand version key.Compressor = since_fourth version
stand version _ = Absent

-- the limits of the input's width and of the output's lowest bit are a polynomial's own
abbrev pub key_outside : Members → Key → Option ℤ
key_outside ms key.Width = width_outside 16 ms key.Width
key_outside ms key.OutLsb = outside (negsuc 15) (pos 0) (number_at ms key.OutLsb)
key_outside ms key.OutWidth = out_width_outside ms
key_outside ms key.Coefficients = coefficients_outside 2 5 ms
key_outside ms key.Denominator = denominator_outside ms
key_outside ms key.Overflow = overflow_outside ms
key_outside ms key.Compressor = compressor_at_outside ms
key_outside ms _ = None

-- the format of an unsigned input below 1: the power of its lowest bit is its width, below 0
abbrev pub below_one_at : Members → Format
below_one_at ms =
    record { signed = false; width = count_at ms key.Width; lsb = small (neg_ℤ (pos (count_at ms key.Width))) }

abbrev pub poly_of : Members → Polynomial
poly_of ms = record {
  input = below_one_at ms;
  out_lsb = small_at ms key.OutLsb;
  coefs = numerators (items_at ms key.Coefficients);
  den = denominator_of ms;
  compressor = Dadda;
}

-- the input's power of the lowest bit is its width, below 0
pub record IsPolyAsWritten (ms : Members) (p : Polynomial) : Type 0 where
  pub width_written : value_at ms key.Width ≡ Some (integer (pos p.input.width))
  pub below_one : p.input.lsb ≡ neg_ℤ (pos p.input.width)
  pub out_lsb : value_at ms key.OutLsb ≡ Some (integer p.out_lsb)
  pub coefs : AreCoefficients ms p.coefs p.den

abbrev pub poly : Entry
poly = record { first = false; stand = stand; key_outside = key_outside; clashes = λ ms k. false; make = λ ms. operator.Poly (poly_of ms) }
