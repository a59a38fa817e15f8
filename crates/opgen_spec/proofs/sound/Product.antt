-- Products of a document without a fault.
use Rattle.std.proofs.Common.{◌≡◌, ◌⊎◌, Some, None, refl}
use Rattle.opgen_operator.specs.declared.kind.Kind.TheVariants as kind
use Rattle.opgen_ports.proofs.InputPorts.{all_two}
use Rattle.opgen_ports.proofs.Marks.{of_bits}
use Rattle.toml.specs.Data.{Members}
use Rattle.opgen_document.specs.declared.key.Key.TheVariants as key
use Rattle.opgen_entries.specs.kinds.{kind_of, entry}
use Rattle.opgen_spec.proofs.sound.Sound.{IsFew, IsSound, none_given}
use Rattle.opgen_document.specs.Document.{value_at, text_at, counters_at, version_of}
use Rattle.opgen_document.specs.Ranges.{width_outside, power_outside}
use Rattle.opgen_spec.proofs.Compressors.{IsTaken, compressor_cases, first_without, compressor_written}
use Rattle.opgen_spec.proofs.Fine.{AreFine, IsFine, own}
use Rattle.opgen_spec.proofs.Ranges.{widest, width_few, input_in, power_in, three_near}
use Rattle.opgen_spec.proofs.Versions.{one_is_first, in_late}
use Rattle.opgen_spec.proofs.Writing.{input_written, power_written, signed_written}

record HasProduct (ms : Members) : Type 0 where
  signed : IsFine ms key.Signed None
  width_a : IsFine ms key.WidthA (width_outside (widest ms) ms key.WidthA)
  lsb_a : IsFine ms key.LsbA (power_outside ms key.LsbA)
  width_b : IsFine ms key.WidthB (width_outside (widest ms) ms key.WidthB)
  lsb_b : IsFine ms key.LsbB (power_outside ms key.LsbB)
  out_lsb : IsFine ms key.OutLsb (power_outside ms key.OutLsb)
  compressor : (value_at ms key.Compressor ≡ None) ⊎ IsTaken ms

keys : (ms : Members) → AreFine ms → kind_of ms ≡ Some kind.Multiply → HasProduct ms
unfolding entry
keys ms f e = record {
  signed = own ms kind.Multiply key.Signed f e refl refl;
  width_a = own ms kind.Multiply key.WidthA f e refl refl;
  lsb_a = own ms kind.Multiply key.LsbA f e refl refl;
  width_b = own ms kind.Multiply key.WidthB f e refl refl;
  lsb_b = own ms kind.Multiply key.LsbB f e refl refl;
  out_lsb = own ms kind.Multiply key.OutLsb f e refl refl;
  compressor = compressor_cases ms kind.Multiply f e (record { stands = λ version. refl; range = λ ms. refl; heap = λ ms made. made });
}

pub multiply : IsSound kind.Multiply
unfolding entry
multiply = record {
  kind_is = λ ms. refl;
  ranges = λ ms f e. let h = keys ms f e in record {
    a = input_in ms key.WidthA key.LsbA h.width_a (power_in ms key.LsbA h.lsb_a);
    b = input_in ms key.WidthB key.LsbB h.width_b (power_in ms key.LsbB h.lsb_b);
    alike = refl;
    out_lsb = power_in ms key.OutLsb h.out_lsb;
    built = (refl, of_bits (counters_at ms), refl);
  };
  inputs = λ ms f e. all_two (IsFew ms) _ _ (width_few ms key.WidthA (keys ms f e).width_a) (width_few ms key.WidthB (keys ms f e).width_b);
  written = λ ms f e. let h = keys ms f e in record {
    signed = signed_written ms h.signed;
    a = input_written ms key.WidthA key.LsbA h.width_a h.width_a.typed (power_written ms key.LsbA h.lsb_a h.lsb_a.typed);
    b = input_written ms key.WidthB key.LsbB h.width_b h.width_b.typed (power_written ms key.LsbB h.lsb_b h.lsb_b.typed);
    out_lsb = power_written ms key.OutLsb h.out_lsb h.out_lsb.typed;
    compressor = compressor_written ms h.compressor;
  };
  agrees = λ ms. tt;
  marked = λ ms asked. cc;
  has = λ ms f e. let h = keys ms f e in (
    λ is. first_without ms h.compressor (one_is_first ms f is),
    three_near ms key.LsbA key.LsbB key.OutLsb f h.lsb_a h.lsb_b h.out_lsb,
  );
  names = λ ms f e. none_given (text_at ms key.Name);
  chosen = λ ms f e may there. record { late = in_late (version_of ms) may; value = λ ms. refl; range = λ ms. refl };
}
