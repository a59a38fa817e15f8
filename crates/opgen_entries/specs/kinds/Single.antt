-- A square root of an input without a sign.
use Rattle.std.specs.Prelude.{◌≡◌, ℤ, true, false, Option, Some, None}
use Rattle.opgen_kinds.specs.declared.single.Single.{Single}
use Rattle.opgen_operator.specs.declared.operator.Operator.TheVariants as operator
use Rattle.toml.specs.Data.{integer, Members}
use Rattle.opgen_document.specs.declared.key.Key.{Key}
use Rattle.opgen_document.specs.declared.key.Key.TheVariants as key
use Rattle.opgen_document.specs.declared.key.Stand.{Stand}
use Rattle.opgen_document.specs.declared.key.Stand.TheVariants.{Absent, Needed}
use Rattle.opgen_document.specs.Document.{value_at, flag_at, small_at, unsigned_at, IsInputAsWritten}
use Rattle.opgen_document.specs.Ranges.{near_outside}
use Rattle.opgen_document.specs.declared.key.Version.{Version}
use Rattle.opgen_entries.specs.Entry.{Entry, input_outside}

abbrev pub stand : Version → Key → Stand
stand version key.Width = Needed
stand version key.Lsb = Needed
stand version key.OutLsb = Needed
stand version _ = Absent

abbrev pub key_outside : Members → Key → Option ℤ
key_outside ms key.Width = input_outside ms key.Width
key_outside ms key.Lsb = near_outside ms key.Lsb
key_outside ms key.OutLsb = near_outside ms key.OutLsb
key_outside ms _ = None

abbrev pub single_of : Members → Single
single_of ms = record {
  input = unsigned_at ms key.Width key.Lsb;
  out_lsb = small_at ms key.OutLsb;
  exact = flag_at ms key.Exact;
}

pub record IsSingleAsWritten (ms : Members) (r : Single) : Type 0 where
  pub input : IsInputAsWritten ms key.Width key.Lsb r.input
  pub out_lsb : value_at ms key.OutLsb ≡ Some (integer r.out_lsb)

abbrev pub root : Entry
root = record { first = true; stand = stand; key_outside = key_outside; clashes = λ ms k. false; make = λ ms. operator.Root (single_of ms) }
