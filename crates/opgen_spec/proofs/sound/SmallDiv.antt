-- Quotients by a small constant of a document without a fault.
use Rattle.std.proofs.Common.{◌∙◌, sym, ◌≡◌, Some, refl, arith}
use Rattle.std.specs.Prelude.{pos}
use Rattle.opgen_operator.specs.declared.kind.Kind.TheVariants as kind
use Rattle.opgen_ports.proofs.Marks.{is_exact-of}
use Rattle.opgen_ports.proofs.InputPorts.{all_one}
use Rattle.toml.specs.Data.{Members}
use Rattle.opgen_document.specs.declared.key.Key.TheVariants as key
use Rattle.opgen_entries.specs.kinds.{kind_of, entry}
use Rattle.opgen_spec.proofs.sound.Sound.{IsFew, IsSound, none_given}
use Rattle.opgen_document.specs.Document.{value_at, text_at, number_at, flag_at}
use Rattle.opgen_document.specs.Ranges.{outside, width_outside, power_outside}
use Rattle.opgen_spec.proofs.Fine.{AreFine, IsFine, own, not_late}
use Rattle.opgen_document.proofs.Ranges.{inside, counted}
use Rattle.opgen_spec.proofs.Ranges.{widest, width_few, unsigned_in, power_in, one_near}
use Rattle.opgen_spec.proofs.Versions.{one_is_first}
use Rattle.opgen_document.proofs.Values.{count_written}
use Rattle.opgen_spec.proofs.Writing.{input_written, unsigned_written, power_written}

record HasSmallDiv (ms : Members) : Type 0 where
  width : IsFine ms key.Width (width_outside (widest ms) ms key.Width)
  lsb : IsFine ms key.Lsb (power_outside ms key.Lsb)
  divisor : IsFine ms key.Divisor (outside (pos 2) (pos 32) (number_at ms key.Divisor))

keys : (ms : Members) → AreFine ms → kind_of ms ≡ Some kind.Constdiv → HasSmallDiv ms
unfolding entry
keys ms f e = record {
  width = own ms kind.Constdiv key.Width f e refl refl;
  lsb = own ms kind.Constdiv key.Lsb f e refl refl;
  divisor = own ms kind.Constdiv key.Divisor f e refl refl;
}

pub constdiv : IsSound kind.Constdiv
unfolding entry
constdiv = record {
  kind_is = λ ms. refl;
  ranges = λ ms f e.
      let h = keys ms f e in
      let (least, most) = inside (pos 2) (pos 32) (number_at ms key.Divisor) h.divisor.within in
      let divisor = counted (number_at ms key.Divisor) 2 32 least most (omega arith) in
      record {
        input = unsigned_in ms key.Width key.Lsb h.width (power_in ms key.Lsb h.lsb);
        unsigned = refl;
        least = divisor.0;
        most = divisor.1;
      };
  inputs = λ ms f e. all_one (IsFew ms) _ (width_few ms key.Width (keys ms f e).width);
  written = λ ms f e. let h = keys ms f e in record {
    input = unsigned_written ms key.Width key.Lsb
        (input_written ms key.Width key.Lsb h.width h.width.typed (power_written ms key.Lsb h.lsb h.lsb.typed));
    divisor = count_written (value_at ms key.Divisor) 2 32 h.divisor.there h.divisor.typed
        (inside (pos 2) (pos 32) (number_at ms key.Divisor) h.divisor.within) (omega arith);
  };
  agrees = λ ms. refl;
  marked = λ ms asked. sym (is_exact-of (flag_at ms key.Exact)) ∙ asked;
  has = λ ms f e. (
    λ is. not_late ms kind.Constdiv f e refl (one_is_first ms f is),
    one_near ms key.Lsb f (keys ms f e).lsb,
  );
  names = λ ms f e. none_given (text_at ms key.Name);
  chosen = λ ms f e may there. cc;
}
