-- Square roots of a document without a fault.
use Rattle.std.proofs.Common.{◌∙◌, sym, ◌≡◌, Some, refl}
use Rattle.opgen_operator.specs.declared.kind.Kind.TheVariants as kind
use Rattle.opgen_ports.proofs.Marks.{is_exact-of}
use Rattle.opgen_ports.proofs.InputPorts.{all_one}
use Rattle.toml.specs.Data.{Members}
use Rattle.opgen_document.specs.declared.key.Key.TheVariants as key
use Rattle.opgen_document.specs.Document.{text_at, flag_at}
use Rattle.opgen_entries.specs.kinds.{kind_of, entry}
use Rattle.opgen_spec.proofs.sound.Sound.{IsFew, IsSound, none_given}
use Rattle.opgen_document.specs.Ranges.{width_outside, near_outside}
use Rattle.opgen_spec.proofs.Fine.{AreFine, IsFine, own}
use Rattle.opgen_spec.proofs.Ranges.{widest, width_few, unsigned_in, near_in, near_power}
use Rattle.opgen_spec.proofs.Writing.{input_written, unsigned_written, near_written}

record HasSingle (ms : Members) : Type 0 where
  width : IsFine ms key.Width (width_outside (widest ms) ms key.Width)
  lsb : IsFine ms key.Lsb (near_outside ms key.Lsb)
  out_lsb : IsFine ms key.OutLsb (near_outside ms key.OutLsb)

keys : (ms : Members) → AreFine ms → kind_of ms ≡ Some kind.Root → HasSingle ms
unfolding entry
keys ms f e = record {
  width = own ms kind.Root key.Width f e refl refl;
  lsb = own ms kind.Root key.Lsb f e refl refl;
  out_lsb = own ms kind.Root key.OutLsb f e refl refl;
}

pub root : IsSound kind.Root
unfolding entry
root = record {
  kind_is = λ ms. refl;
  ranges = λ ms f e. let h = keys ms f e in record {
    input = unsigned_in ms key.Width key.Lsb h.width (near_power ms key.Lsb h.lsb);
    unsigned = refl;
    lsb = near_in ms key.Lsb h.lsb;
    out_lsb = near_in ms key.OutLsb h.out_lsb;
  };
  inputs = λ ms f e. all_one (IsFew ms) _ (width_few ms key.Width (keys ms f e).width);
  written = λ ms f e. let h = keys ms f e in record {
    input = unsigned_written ms key.Width key.Lsb
        (input_written ms key.Width key.Lsb h.width h.width.typed (near_written ms key.Lsb h.lsb h.lsb.typed));
    out_lsb = near_written ms key.OutLsb h.out_lsb h.out_lsb.typed;
  };
  agrees = λ ms. refl;
  marked = λ ms asked. sym (is_exact-of (flag_at ms key.Exact)) ∙ asked;
  has = λ ms f e. tt;
  names = λ ms f e. none_given (text_at ms key.Name);
  chosen = λ ms f e may there. cc;
}
