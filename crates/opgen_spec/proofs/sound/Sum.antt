-- Scales and filters of a document without a fault.
use Rattle.std.proofs.Common.{◌∙◌, sym, ◌≡◌, ℕ, ◌⊎◌, false, [], ◌∷◌, Some, None, option_and_then, refl}
use Rattle.opgen_operator.specs.declared.kind.Kind.TheVariants as kind
use Rattle.opgen_kinds.specs.Sum.{IsSum}
use Rattle.opgen_ports.proofs.InputPorts.{all_one}
use Rattle.toml.specs.Data.{Members}
use Rattle.opgen_document.specs.declared.key.Key.TheVariants as key
use Rattle.opgen_entries.specs.kinds.{kind_of, entry}
use Rattle.opgen_spec.proofs.sound.Sound.{IsFew, IsSound, none_given}
use Rattle.opgen_document.specs.Document.{value_at, text_at, items_at, flag_at, count_at, small_at, counters_at, version_of}
use Rattle.opgen_document.specs.Ranges.{width_outside, power_outside, coefficients_outside, denominator_outside}
use Rattle.opgen_ports.proofs.Marks.{is_exact-of, exact_or_faithful, of_bits}
use Rattle.opgen_ports.specs.Recipes.{compressor_of, has_counters}
use Rattle.opgen_ports.specs.Ranges.{AreNear}
use Rattle.opgen_entries.specs.kinds.Sum.{sum_of, IsSumAsWritten}
use Rattle.opgen_spec.proofs.Compressors.{IsTaken, compressor_cases, first_without, compressor_written}
use Rattle.opgen_spec.proofs.Fine.{AreFine, IsFine, own, own_range}
use Rattle.opgen_document.proofs.Ranges.{denominator_in}
use Rattle.opgen_entries.proofs.Arrays.{array_in}
use Rattle.opgen_spec.proofs.Ranges.{widest, width_few, input_in, power_in, two_near}
use Rattle.opgen_spec.proofs.Versions.{one_is_first, in_late}
use Rattle.opgen_spec.proofs.Writing.{input_written, power_written, signed_written, coefs_written}

-- what is known of the keys of a scale, or of a filter
record HasSum (most : ℕ) (ms : Members) : Type 0 where
  fine : AreFine ms
  signed : IsFine ms key.Signed None
  width : IsFine ms key.Width (width_outside (widest ms) ms key.Width)
  lsb : IsFine ms key.Lsb (power_outside ms key.Lsb)
  out_lsb : IsFine ms key.OutLsb (power_outside ms key.OutLsb)
  coefs : IsFine ms key.Coefficients (coefficients_outside 1 most ms)
  den : option_and_then (λ _. denominator_outside ms) (value_at ms key.Denominator) ≡ None
  compressor : (value_at ms key.Compressor ≡ None) ⊎ IsTaken ms

sum_in : (most : ℕ) (ms : Members) → HasSum most ms → IsSum most (sum_of ms)
sum_in most ms h =
    let array = array_in 1 most 1073741824 (items_at ms key.Coefficients) h.coefs.within in
    let (positive, small) = denominator_in ms h.den in
    record {
      input = input_in ms key.Width key.Lsb h.width (power_in ms key.Lsb h.lsb);
      out_lsb = power_in ms key.OutLsb h.out_lsb;
      some = array.some;
      few = array.few;
      coefs = array.each;
      positive = positive;
      small = small;
      built = (exact_or_faithful (flag_at ms key.Exact), of_bits (counters_at ms), refl);
    }

sum_written : (most : ℕ) (ms : Members) → HasSum most ms → IsSumAsWritten ms (sum_of ms)
sum_written most ms h = record {
  signed = signed_written ms h.signed;
  input = input_written ms key.Width key.Lsb h.width h.width.typed (power_written ms key.Lsb h.lsb h.lsb.typed);
  out_lsb = power_written ms key.OutLsb h.out_lsb h.out_lsb.typed;
  coefs = coefs_written ms h.fine;
  compressor = compressor_written ms h.compressor;
}

-- version 1 has no larger counters, and the first two versions have lowest bits from -32 to 32
sum_has : (most : ℕ) (ms : Members) → HasSum most ms → (count_at ms key.Version ≡ 1 → has_counters (compressor_of (counters_at ms)) ≡ false)
    × AreNear (count_at ms key.Version) (small_at ms key.Lsb ∷ small_at ms key.OutLsb ∷ [])
sum_has most ms h = (
  λ is. first_without ms h.compressor (one_is_first ms h.fine is),
  two_near ms key.Lsb key.OutLsb h.fine h.lsb h.out_lsb,
)

scale_keys : (ms : Members) → AreFine ms → kind_of ms ≡ Some kind.Scale → HasSum 1 ms
unfolding entry
scale_keys ms f e = record {
  fine = f;
  signed = own ms kind.Scale key.Signed f e refl refl;
  width = own ms kind.Scale key.Width f e refl refl;
  lsb = own ms kind.Scale key.Lsb f e refl refl;
  out_lsb = own ms kind.Scale key.OutLsb f e refl refl;
  coefs = own ms kind.Scale key.Coefficients f e refl refl;
  den = own_range ms kind.Scale key.Denominator f e refl;
  compressor = compressor_cases ms kind.Scale f e (record { stands = λ version. refl; range = λ ms. refl; heap = λ ms made. made });
}

fir_keys : (ms : Members) → AreFine ms → kind_of ms ≡ Some kind.Fir → HasSum 256 ms
unfolding entry
fir_keys ms f e = record {
  fine = f;
  signed = own ms kind.Fir key.Signed f e refl refl;
  width = own ms kind.Fir key.Width f e refl refl;
  lsb = own ms kind.Fir key.Lsb f e refl refl;
  out_lsb = own ms kind.Fir key.OutLsb f e refl refl;
  coefs = own ms kind.Fir key.Coefficients f e refl refl;
  den = own_range ms kind.Fir key.Denominator f e refl;
  compressor = compressor_cases ms kind.Fir f e (record { stands = λ version. refl; range = λ ms. refl; heap = λ ms made. made });
}

pub scale : IsSound kind.Scale
unfolding entry
scale = record {
  kind_is = λ ms. refl;
  ranges = λ ms f e. sum_in 1 ms (scale_keys ms f e);
  inputs = λ ms f e. all_one (IsFew ms) _ (width_few ms key.Width (scale_keys ms f e).width);
  written = λ ms f e. sum_written 1 ms (scale_keys ms f e);
  agrees = λ ms. refl;
  marked = λ ms asked. sym (is_exact-of (flag_at ms key.Exact)) ∙ asked;
  has = λ ms f e. sum_has 1 ms (scale_keys ms f e);
  names = λ ms f e. none_given (text_at ms key.Name);
  chosen = λ ms f e may there. record { late = in_late (version_of ms) may; value = λ ms. refl; range = λ ms. refl };
}

pub fir : IsSound kind.Fir
unfolding entry
fir = record {
  kind_is = λ ms. refl;
  ranges = λ ms f e. sum_in 256 ms (fir_keys ms f e);
  inputs = λ ms f e. all_one (IsFew ms) _ (width_few ms key.Width (fir_keys ms f e).width);
  written = λ ms f e. sum_written 256 ms (fir_keys ms f e);
  agrees = λ ms. refl;
  marked = λ ms asked. sym (is_exact-of (flag_at ms key.Exact)) ∙ asked;
  has = λ ms f e. sum_has 256 ms (fir_keys ms f e);
  names = λ ms f e. none_given (text_at ms key.Name);
  chosen = λ ms f e may there. record { late = in_late (version_of ms) may; value = λ ms. refl; range = λ ms. refl };
}
