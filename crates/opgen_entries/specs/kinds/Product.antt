-- A product of two inputs.
use Rattle.std.specs.Prelude.{◌≡◌, ℤ, IsTrue, true, false, Option, Some, None}
use Rattle.opgen_num.specs.declared.mode.Mode.TheVariants.{Faithful}
use Rattle.opgen_kinds.specs.declared.product.Product.{Product}
use Rattle.opgen_ports.specs.declared.recipes.Recipe.TheVariants.{Third}
use Rattle.opgen_ports.specs.Recipes.{compressor_of, has_counters, is_of_bits}
use Rattle.opgen_operator.specs.declared.operator.Operator.TheVariants as operator
use Rattle.toml.specs.Data.{boolean, integer, Members}
use Rattle.opgen_document.specs.declared.key.Key.{Key}
use Rattle.opgen_document.specs.declared.key.Key.TheVariants as key
use Rattle.opgen_document.specs.declared.key.Stand.{Stand}
use Rattle.opgen_document.specs.declared.key.Stand.TheVariants.{Absent, Needed}
use Rattle.opgen_document.specs.Document.{value_at, small_at, format_at, counters_at, IsInputAsWritten, IsCompressorAsWritten, since_second, since_third, since_fourth}
use Rattle.opgen_document.specs.Ranges.{power_outside, out_width_outside, rounding_outside, overflow_outside, compressor_at_outside}
use Rattle.opgen_document.specs.declared.key.Version.{Version}
use Rattle.opgen_entries.specs.Entry.{Entry, input_outside}

abbrev pub stand : Version → Key → Stand
stand version key.Rounding = since_fourth version
stand version key.Signed = Needed
stand version key.WidthA = Needed
stand version key.LsbA = Needed
stand version key.WidthB = Needed
stand version key.LsbB = Needed
stand version key.OutLsb = Needed
stand version key.OutWidth = since_third version
stand version key.OutSigned = since_third version
stand version key.Overflow = since_fourth version
stand version key.Compressor = since_second version
stand version _ = Absent

abbrev pub key_outside : Members → Key → Option ℤ
key_outside ms key.Rounding = rounding_outside ms
key_outside ms key.WidthA = input_outside ms key.WidthA
key_outside ms key.LsbA = power_outside ms key.LsbA
key_outside ms key.WidthB = input_outside ms key.WidthB
key_outside ms key.LsbB = power_outside ms key.LsbB
key_outside ms key.OutLsb = power_outside ms key.OutLsb
key_outside ms key.OutWidth = out_width_outside ms
key_outside ms key.Compressor = compressor_at_outside ms
key_outside ms key.Overflow = overflow_outside ms
key_outside ms _ = None

abbrev pub product_of : Members → Product
product_of ms = record {
  a = format_at ms key.WidthA key.LsbA;
  b = format_at ms key.WidthB key.LsbB;
  out_lsb = small_at ms key.OutLsb;
  compressor = compressor_of (counters_at ms);
  mode = Faithful;
  recipe = Third;
}

pub record IsProductAsWritten (ms : Members) (p : Product) : Type 0 where
  pub signed : value_at ms key.Signed ≡ Some (boolean p.a.signed)
  pub a : IsInputAsWritten ms key.WidthA key.LsbA p.a
  pub b : IsInputAsWritten ms key.WidthB key.LsbB p.b
  pub out_lsb : value_at ms key.OutLsb ≡ Some (integer p.out_lsb)
  pub compressor : IsTrue (is_of_bits p.compressor) × IsCompressorAsWritten ms (has_counters p.compressor)

abbrev pub multiply : Entry
multiply = record { first = true; stand = stand; key_outside = key_outside; clashes = λ ms k. false; make = λ ms. operator.Multiply (product_of ms) }
