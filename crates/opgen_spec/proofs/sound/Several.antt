-- Products by several constants of a document without a fault.
use Rattle.std.proofs.Common.{◌≡◌, Some, None, refl}
use Rattle.opgen_operator.specs.declared.kind.Kind.TheVariants as kind
use Rattle.opgen_ports.proofs.InputPorts.{all_one}
use Rattle.toml.specs.Data.{Members}
use Rattle.opgen_document.specs.declared.key.Key.TheVariants as key
use Rattle.opgen_entries.specs.kinds.{kind_of, entry}
use Rattle.opgen_spec.proofs.sound.Sound.{IsFew, IsSound, none_given}
use Rattle.opgen_document.specs.Document.{value_at, text_at, items_at, is_searched}
use Rattle.opgen_document.specs.Numbers.{numerators}
use Rattle.opgen_document.specs.Ranges.{width_outside, power_outside, array_outside, constant_limit}
use Rattle.opgen_document.proofs.Decimals.{integers_written, numbers_typed}
use Rattle.opgen_spec.proofs.Fine.{AreFine, IsFine, own, own_there, needed}
use Rattle.opgen_entries.proofs.Arrays.{array_in}
use Rattle.opgen_spec.proofs.Ranges.{widest, width_few, input_in, power_in, one_near}
use Rattle.opgen_spec.proofs.Searches.{IsExtra, extra_few, no_extra, search_written, early_search, in_limit, in_search}
use Rattle.opgen_spec.proofs.Versions.{early}
use Rattle.opgen_spec.proofs.Writing.{input_written, power_written, signed_written}

record HasSeveral (ms : Members) : Type 0 where
  signed : IsFine ms key.Signed None
  width : IsFine ms key.Width (width_outside (widest ms) ms key.Width)
  lsb : IsFine ms key.Lsb (power_outside ms key.Lsb)
  constants : IsFine ms key.Constants (array_outside 1 8 (constant_limit (is_searched ms)) (items_at ms key.Constants))
  extra : IsExtra ms

keys : (ms : Members) → AreFine ms → kind_of ms ≡ Some kind.Mcm → HasSeveral ms
unfolding entry
keys ms f e = record {
  signed = own ms kind.Mcm key.Signed f e refl refl;
  width = own ms kind.Mcm key.Width f e refl refl;
  lsb = own ms kind.Mcm key.Lsb f e refl refl;
  constants = own ms kind.Mcm key.Constants f e refl refl;
  extra = own_there ms kind.Mcm key.Extra f e refl;
}

pub mcm : IsSound kind.Mcm
unfolding entry
mcm = record {
  kind_is = λ ms. refl;
  ranges = λ ms f e.
      let h = keys ms f e in
      let searched = is_searched ms in
      let constants = numerators (items_at ms key.Constants) in
      let array = array_in 1 8 (constant_limit searched) (items_at ms key.Constants) h.constants.within in
      record {
        input = input_in ms key.Width key.Lsb h.width (power_in ms key.Lsb h.lsb);
        some = array.some;
        few = array.few;
        constants = in_limit searched constants array.each;
        searched = λ asked. record { constants = in_search searched constants asked array.each; extra = extra_few ms h.extra asked };
        rest = no_extra ms;
        built = refl;
      };
  inputs = λ ms f e. all_one (IsFew ms) _ (width_few ms key.Width (keys ms f e).width);
  written = λ ms f e. let h = keys ms f e in record {
    signed = signed_written ms h.signed;
    input = input_written ms key.Width key.Lsb h.width h.width.typed (power_written ms key.Lsb h.lsb h.lsb.typed);
    constants = integers_written (items_at ms key.Constants) (numbers_typed (value_at ms key.Constants) h.constants.typed);
    search = search_written ms h.extra;
  };
  agrees = λ ms. tt;
  marked = λ ms asked. cc;
  has = λ ms f e. (
    one_near ms key.Lsb f (keys ms f e).lsb,
    λ below. early_search ms (early ms f below) (needed ms kind.Mcm key.Extra f e refl),
  );
  names = λ ms f e. none_given (text_at ms key.Name);
  chosen = λ ms f e may there. cc;
}
