-- A quotient by a small constant.
use Rattle.std.specs.Prelude.{◌≡◌, ℤ, pos, false, Option, Some, None}
use Rattle.opgen_kinds.specs.declared.small_div.SmallDiv.{SmallDiv}
use Rattle.opgen_operator.specs.declared.operator.Operator.TheVariants as operator
use Rattle.toml.specs.Data.{integer, Members}
use Rattle.opgen_num.specs.declared.limits.TheConstants.{MAX_DIVISOR}
use Rattle.opgen_document.specs.declared.key.Key.{Key}
use Rattle.opgen_document.specs.declared.key.Key.TheVariants as key
use Rattle.opgen_document.specs.declared.key.Stand.{Stand}
use Rattle.opgen_document.specs.declared.key.Stand.TheVariants.{Absent, Needed}
use Rattle.opgen_document.specs.Document.{value_at, number_at, flag_at, count_at, unsigned_at, IsInputAsWritten}
use Rattle.opgen_document.specs.Ranges.{outside, power_outside}
use Rattle.opgen_document.specs.declared.key.Version.{Version}
use Rattle.opgen_entries.specs.Entry.{Entry, input_outside}

abbrev pub stand : Version → Key → Stand
stand version key.Width = Needed
stand version key.Lsb = Needed
stand version key.Divisor = Needed
stand version _ = Absent

abbrev pub key_outside : Members → Key → Option ℤ
key_outside ms key.Width = input_outside ms key.Width
key_outside ms key.Lsb = power_outside ms key.Lsb
key_outside ms key.Divisor = outside (pos 2) (pos MAX_DIVISOR) (number_at ms key.Divisor)
key_outside ms _ = None

abbrev pub small_div_of : Members → SmallDiv
small_div_of ms = record {
  input = unsigned_at ms key.Width key.Lsb;
  divisor = count_at ms key.Divisor;
  exact = flag_at ms key.Exact;
}

pub record IsSmallDivAsWritten (ms : Members) (c : SmallDiv) : Type 0 where
  pub input : IsInputAsWritten ms key.Width key.Lsb c.input
  pub divisor : value_at ms key.Divisor ≡ Some (integer (pos c.divisor))

abbrev pub constdiv : Entry
constdiv = record {
  first = false;
  stand = stand;
  key_outside = key_outside;
  clashes = λ ms k. false;
  make = λ ms. operator.Constdiv (small_div_of ms);
}
