-- Transposed filters of a document without a fault.
use Rattle.std.proofs.Common.{◌≡◌, ◌≤◌, ◌⊎◌, inl, inr, Bool, true, false, length, Option, Some, None, is_none, refl, ap, arith}
use Rattle.std.specs.Prelude.{pos, All, IsTrue}
use Rattle.std.specs.Option.{option_map_or}
use Rattle.std.proofs.lemmas.Int.{ints}
use Rattle.opgen_operator.specs.declared.kind.Kind.TheVariants as kind
use Rattle.opgen_ports.specs.OddParts.{odd_part_count}
use Rattle.opgen_ports.specs.Ranges.{IsPower, IsWithin}
use Rattle.opgen_ports.proofs.InputPorts.{all_one}
use Rattle.toml.specs.Data.{Data, integer, Items, Members}
use Rattle.opgen_document.specs.declared.key.Key.TheVariants as key
use Rattle.opgen_entries.specs.kinds.{kind_of, entry}
use Rattle.opgen_spec.proofs.sound.Sound.{IsFew, IsSound, none_given}
use Rattle.opgen_document.specs.Document.{value_at, text_at, items_at, small_at, version_of, is_searched}
use Rattle.opgen_document.specs.Numbers.{numerators}
use Rattle.opgen_document.specs.Ranges.{width_outside, power_outside, array_outside, constant_limit}
use Rattle.opgen_entries.specs.kinds.Taps.{parts_outside, taps_outside, out_lsb_of}
use Rattle.opgen_document.proofs.Decimals.{integers_written, numbers_typed}
use Rattle.opgen_spec.proofs.Fine.{AreFine, IsFine, own, own_there, needed, not_late}
use Rattle.opgen_spec.proofs.Known.{not_there, out_lsb_key}
use Rattle.opgen_document.proofs.Ranges.{inside}
use Rattle.opgen_spec.proofs.Ranges.{widest, width_few, input_in, power_in, one_near, within_more}
use Rattle.opgen_entries.proofs.Arrays.{or_none, array_in}
use Rattle.opgen_spec.proofs.Searches.{IsExtra, extra_few, no_extra, search_written, early_search}
use Rattle.opgen_spec.proofs.Versions.{IsEarly, early, in_late, one_is_first, not_in_early}
use Rattle.opgen_spec.proofs.Writing.{input_written, power_written, signed_written}

record HasTaps (ms : Members) : Type 0 where
  signed : IsFine ms key.Signed None
  width : IsFine ms key.Width (width_outside (widest ms) ms key.Width)
  lsb : IsFine ms key.Lsb (power_outside ms key.Lsb)
  out_lsb : is_none (value_at ms key.OutLsb) ≡ false → IsFine ms key.OutLsb (power_outside ms key.OutLsb)
  taps : IsFine ms key.Taps (taps_outside (is_searched ms) (items_at ms key.Taps))
  extra : IsExtra ms

keys : (ms : Members) → AreFine ms → kind_of ms ≡ Some kind.Tfir → HasTaps ms
unfolding entry
keys ms f e = record {
  signed = own ms kind.Tfir key.Signed f e refl refl;
  width = own ms kind.Tfir key.Width f e refl refl;
  lsb = own ms kind.Tfir key.Lsb f e refl refl;
  out_lsb = own_there ms kind.Tfir key.OutLsb f e refl;
  taps = own ms kind.Tfir key.Taps f e refl refl;
  extra = own_there ms kind.Tfir key.Extra f e refl;
}

-- the lowest bit of the output, that of the input where the document does not say it
out_lsb_in : (ms : Members) → HasTaps ms → IsPower (out_lsb_of ms)
out_lsb_in ms h = by (value_at ms key.OutLsb) refl
  where
    by : (o : Option Data) → value_at ms key.OutLsb ≡ o → IsPower (option_map_or (λ _. small_at ms key.OutLsb) o (small_at ms key.Lsb))
    by None none = power_in ms key.Lsb h.lsb
    by (Some d) some = power_in ms key.OutLsb (h.out_lsb (ap is_none some))

out_lsb_written : (ms : Members) → HasTaps ms
    → (value_at ms key.OutLsb ≡ Some (integer (out_lsb_of ms))) ⊎ ((value_at ms key.OutLsb ≡ None) × (out_lsb_of ms ≡ small_at ms key.Lsb))
out_lsb_written ms h = by (value_at ms key.OutLsb) refl
  where
    by : (o : Option Data) → value_at ms key.OutLsb ≡ o
        → (value_at ms key.OutLsb ≡ Some (integer (option_map_or (λ _. small_at ms key.OutLsb) o (small_at ms key.Lsb)))) ⊎
        ((value_at ms key.OutLsb ≡ None) × (option_map_or (λ _. small_at ms key.OutLsb) o (small_at ms key.Lsb) ≡ small_at ms key.Lsb))
    by None none = inr (none, refl)
    by (Some d) some =
        let fine = h.out_lsb (ap is_none some) in
        inl (power_written ms key.OutLsb fine fine.typed)

-- the first two versions do not have the key for it
same_lsb : (ms : Members) → AreFine ms → kind_of ms ≡ Some kind.Tfir → IsEarly (version_of ms) → out_lsb_of ms ≡ small_at ms key.Lsb
unfolding entry
same_lsb ms f e is_early =
    ap (λ o. option_map_or (λ _. small_at ms key.OutLsb) o (small_at ms key.Lsb))
    (not_there ms kind.Tfir key.OutLsb f e out_lsb_key refl (not_in_early (version_of ms) is_early))

-- taps whose adder graph is searched for, or not
record AreTaps (searched : Bool) (items : Items) : Type 0 where
  some : 1 ≤ length (numerators items)
  few : length (numerators items) ≤ 256
  each : All (IsWithin 1048575) (numerators items)
  fewer : IsTrue searched → length (numerators items) ≤ 32
  small : IsTrue searched → All (IsWithin 2047) (numerators items)
  parts : IsTrue searched → odd_part_count (numerators items) ≤ 8

taps_in : (searched : Bool) (items : Items) → taps_outside searched items ≡ None → AreTaps searched items
taps_in true items h =
    let (numbers, parts) = or_none (array_outside 1 32 (constant_limit true) items) (parts_outside items) h in
    let array = array_in 1 32 2047 items numbers in
    let (_, few_parts) = inside (pos 0) (pos 8) (pos (odd_part_count (numerators items))) parts in
    record {
      some = array.some;
      few = omega (arith, array.few);
      each = within_more 2047 1048575 (numerators items) (omega arith) array.each;
      fewer = λ asked. array.few;
      small = λ asked. array.each;
      parts = λ asked. omega (arith, ints, few_parts);
    }
taps_in false items h =
    let array = array_in 1 256 1048575 items h in
    record {
      some = array.some;
      few = array.few;
      each = array.each;
      fewer = λ asked. cc;
      small = λ asked. cc;
      parts = λ asked. cc;
    }

pub tfir : IsSound kind.Tfir
unfolding entry
tfir = record {
  kind_is = λ ms. refl;
  ranges = λ ms f e.
      let h = keys ms f e in
      let taps = taps_in (is_searched ms) (items_at ms key.Taps) h.taps.within in
      record {
        input = input_in ms key.Width key.Lsb h.width (power_in ms key.Lsb h.lsb);
        out_lsb = out_lsb_in ms h;
        some = taps.some;
        few = taps.few;
        taps = taps.each;
        searched = λ asked. record {
          few = taps.fewer asked;
          taps = taps.small asked;
          parts = taps.parts asked;
          extra = extra_few ms h.extra asked;
        };
        rest = no_extra ms;
        built = (refl, refl);
      };
  inputs = λ ms f e. all_one (IsFew ms) _ (width_few ms key.Width (keys ms f e).width);
  written = λ ms f e. let h = keys ms f e in record {
    signed = signed_written ms h.signed;
    input = input_written ms key.Width key.Lsb h.width h.width.typed (power_written ms key.Lsb h.lsb h.lsb.typed);
    out_lsb = out_lsb_written ms h;
    taps = integers_written (items_at ms key.Taps) (numbers_typed (value_at ms key.Taps) h.taps.typed);
    search = search_written ms h.extra;
  };
  agrees = λ ms. tt;
  marked = λ ms asked. cc;
  has = λ ms f e. (
    λ is. not_late ms kind.Tfir f e refl (one_is_first ms f is),
    one_near ms key.Lsb f (keys ms f e).lsb,
    λ below. (
      same_lsb ms f e (early ms f below),
      early_search ms (early ms f below) (needed ms kind.Tfir key.Extra f e refl),
    ),
  );
  names = λ ms f e. none_given (text_at ms key.Name);
  chosen = λ ms f e may there. record { late = in_late (version_of ms) may; value = λ ms. refl; range = λ ms. refl };
}
