-- Fields that operators of several kinds have are as the document writes them.
use Rattle.std.proofs.Common.{◌≡◌, ℕ, ◌<◌, ◌^◌, Option, Some, None, inl, inr, refl, arith}
use Rattle.std.specs.Prelude.{pos}
use Rattle.std.proofs.lemmas.Int.{ints}
use Rattle.toml.specs.Data.{Data, integer, boolean, Members}
use Rattle.opgen_document.specs.declared.key.Key.{Key}
use Rattle.opgen_document.specs.declared.key.Key.TheVariants as key
use Rattle.opgen_document.specs.Decimals.{AreCoefficients}
use Rattle.opgen_document.specs.Document.{value_at, number_at, flag_in, flag_at, count_at, small_at, items_at, format_at, unsigned_at, IsInputAsWritten, IsFlagAsWritten}
use Rattle.opgen_document.specs.Numbers.{numerators, denominator_of}
use Rattle.opgen_document.specs.Ranges.{width_outside, near_outside, power_outside, extra_outside}
use Rattle.opgen_document.proofs.Decimals.{coefficients_written}
use Rattle.opgen_document.proofs.Ranges.{inside}
use Rattle.opgen_document.proofs.Values.{IsNumber, IsFlag, count_written, flag_stands, small_written}
use Rattle.opgen_spec.proofs.Fine.{AreFine, IsFine, typed}
use Rattle.opgen_spec.proofs.Ranges.{width_bounds, widest, few_bits, near_bounds, power_bounds}

pub power_written : (ms : Members) (k : Key) → IsFine ms k (power_outside ms k) → IsNumber (value_at ms k)
    → value_at ms k ≡ Some (integer (small_at ms k))
power_written ms k h number = small_written (value_at ms k) h.there number (power_bounds ms k h)

pub near_written : (ms : Members) (k : Key) → IsFine ms k (near_outside ms k) → IsNumber (value_at ms k)
    → value_at ms k ≡ Some (integer (small_at ms k))
near_written ms k h number =
    let (least, most) = near_bounds ms k h in
    small_written (value_at ms k) h.there number (omega (arith, ints, least), omega (arith, ints, most))

pub width_written : (most : ℕ) (ms : Members) (k : Key) → most < 2 ^ 32 → IsFine ms k (width_outside most ms k) → IsNumber (value_at ms k)
    → value_at ms k ≡ Some (integer (pos (count_at ms k)))
width_written most ms k few h number = count_written (value_at ms k) 1 most h.there number (width_bounds most ms k h) few

pub input_written : (ms : Members) (w l : Key) → IsFine ms w (width_outside (widest ms) ms w) → IsNumber (value_at ms w)
    → value_at ms l ≡ Some (integer (small_at ms l)) → IsInputAsWritten ms w l (format_at ms w l)
input_written ms w l width width_number lsb = record {
  width_written = width_written (widest ms) ms w (few_bits ms) width width_number;
  lsb_written = lsb;
}

pub unsigned_written : (ms : Members) (w l : Key) → IsInputAsWritten ms w l (format_at ms w l) → IsInputAsWritten ms w l (unsigned_at ms w l)
unsigned_written ms w l h = record { width_written = h.width_written; lsb_written = h.lsb_written }

-- the key `signed` is never out of range
pub signed_written : (ms : Members) → IsFine ms key.Signed None → value_at ms key.Signed ≡ Some (boolean (flag_at ms key.Signed))
signed_written ms h = flag_stands (value_at ms key.Signed) h.there h.typed

-- where a truth value may be left out, none is `false`
pub optional_flag_written : (ms : Members) (k : Key) → IsFlag (value_at ms k) → IsFlagAsWritten ms k (flag_at ms k)
optional_flag_written ms k typed = go (value_at ms k) refl typed
  where
    go : (o : Option Data) → value_at ms k ≡ o → IsFlag o → IsFlagAsWritten ms k (flag_in o)
    go None none typed = inr (none, refl)
    go (Some (boolean flag)) some typed = inl some
    go (Some _) some typed = cc

pub extra_written : (ms : Members) → IsFine ms key.Extra (extra_outside ms)
    → value_at ms key.Extra ≡ Some (integer (pos (count_at ms key.Extra)))
extra_written ms h =
    count_written (value_at ms key.Extra) 0 2 h.there h.typed (inside (pos 0) (pos 2) (number_at ms key.Extra) h.within) (omega arith)

pub coefs_written : (ms : Members) → AreFine ms → AreCoefficients ms (numerators (items_at ms key.Coefficients)) (denominator_of ms)
coefs_written ms f = coefficients_written ms (typed ms key.Coefficients f refl) (typed ms key.Denominator f refl)
