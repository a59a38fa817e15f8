-- A quotient of two inputs, both signed or none.
use Rattle.std.specs.Prelude.{◌≡◌, ◌≢◌, ◌⊎◌, ℕ, Bool, ℤ, true, false, List, codes, Option, Some, None, if◌then◌else◌}
use Rattle.std.specs.Str.{bytes_eq}
use Rattle.opgen_kinds.specs.declared.pair.Pair.{Pair}
use Rattle.opgen_operator.specs.declared.operator.Operator.TheVariants as operator
use Rattle.opgen_ports.specs.declared.recipes.Recurrence.{Recurrence}
use Rattle.opgen_ports.specs.declared.recipes.Recurrence.TheVariants.{Restoring, Nonrestoring}
use Rattle.toml.specs.Data.{string, integer, Members}
use Rattle.opgen_document.specs.declared.key.Key.{Key}
use Rattle.opgen_document.specs.declared.key.Key.TheVariants as key
use Rattle.opgen_document.specs.declared.key.Stand.{Stand}
use Rattle.opgen_document.specs.declared.key.Stand.TheVariants.{Absent, Needed}
use Rattle.opgen_document.specs.Document.{value_at, text_at, flag_at, small_at, format_at, IsInputAsWritten, IsFlagAsWritten, version_of, since_third, since_fourth}
use Rattle.opgen_document.specs.Ranges.{near_outside, out_width_outside, overflow_outside, recurrence_outside}
use Rattle.opgen_document.specs.declared.key.Version.{Version}
use Rattle.opgen_document.specs.declared.key.Version.TheVariants.{First, Second, Third, Fourth}
use Rattle.opgen_entries.specs.Entry.{Entry, input_outside}

abbrev pub stand : Version → Key → Stand
stand version key.Signed = since_third version
stand version key.WidthA = Needed
stand version key.LsbA = Needed
stand version key.WidthB = Needed
stand version key.LsbB = Needed
stand version key.OutLsb = Needed
stand version key.OutWidth = since_fourth version
stand version key.OutSigned = since_fourth version
stand version key.Overflow = since_fourth version
stand version key.Recurrence = since_fourth version
stand version _ = Absent

abbrev pub key_outside : Members → Key → Option ℤ
key_outside ms key.WidthA = input_outside ms key.WidthA
key_outside ms key.LsbA = near_outside ms key.LsbA
key_outside ms key.WidthB = input_outside ms key.WidthB
key_outside ms key.LsbB = near_outside ms key.LsbB
key_outside ms key.OutLsb = near_outside ms key.OutLsb
key_outside ms key.OutWidth = out_width_outside ms
key_outside ms key.Overflow = overflow_outside ms
key_outside ms key.Recurrence = recurrence_outside ms
key_outside ms _ = None

-- the width of the output of exact quotients is not chosen
abbrev pub clashes : Members → Key → Bool
clashes ms key.OutWidth = flag_at ms key.Exact
clashes ms _ = false

-- how the digits are found: in version 4 without restoring, where the document does not say otherwise
abbrev pub recurrence_in : Version → (name : List ℕ) → Recurrence
recurrence_in First name = Restoring
recurrence_in Second name = Restoring
recurrence_in Third name = Restoring
recurrence_in Fourth name = if bytes_eq name (codes "restoring") then Restoring else Nonrestoring

abbrev pub pair_of : Members → Pair
pair_of ms = record {
  a = format_at ms key.WidthA key.LsbA;
  b = format_at ms key.WidthB key.LsbB;
  out_lsb = small_at ms key.OutLsb;
  exact = flag_at ms key.Exact;
  recurrence = recurrence_in (version_of ms) (text_at ms key.Recurrence);
}

-- a recurrence is chosen by its word; where none is, a difference below 0 is not kept before version 4, and kept in version 4
abbrev pub IsRecurrenceAsWritten : Members → Recurrence → Type 0
IsRecurrenceAsWritten ms Restoring =
    (value_at ms key.Recurrence ≡ Some (string (codes "restoring"))) ⊎ ((value_at ms key.Recurrence ≡ None) × (version_of ms ≢ Fourth))
IsRecurrenceAsWritten ms Nonrestoring =
    (value_at ms key.Recurrence ≡ Some (string (codes "nonrestoring"))) ⊎ ((value_at ms key.Recurrence ≡ None) × (version_of ms ≡ Fourth))

pub record IsPairAsWritten (ms : Members) (p : Pair) : Type 0 where
  pub signed : IsFlagAsWritten ms key.Signed p.a.signed
  pub a : IsInputAsWritten ms key.WidthA key.LsbA p.a
  pub b : IsInputAsWritten ms key.WidthB key.LsbB p.b
  pub out_lsb : value_at ms key.OutLsb ≡ Some (integer p.out_lsb)
  pub recurrence : IsRecurrenceAsWritten ms p.recurrence

abbrev pub divide : Entry
divide = record { first = true; stand = stand; key_outside = key_outside; clashes = clashes; make = λ ms. operator.Divide (pair_of ms) }
