-- Polynomials of a document without a fault.
use Rattle.std.proofs.Common.{◌≡◌, ℕ, ◌≤◌, Some, None, option_and_then, ◌==◌, Bool, true, false, if◌then◌else◌, refl, sym, subst, arith}
use Rattle.std.specs.Prelude.{pos, negsuc, neg_ℤ, ◌≤ℤ◌}
use Rattle.std.proofs.lemmas.Int.{ints}
use Rattle.opgen_operator.specs.declared.kind.Kind.TheVariants as kind
use Rattle.opgen_kinds.specs.Poly.{IsPoly}
use Rattle.opgen_ports.specs.Ranges.{IsPower}
use Rattle.opgen_ports.proofs.InputPorts.{all_one, some_bits}
use Rattle.toml.specs.Data.{Members}
use Rattle.opgen_document.specs.declared.key.Key.TheVariants as key
use Rattle.opgen_entries.specs.kinds.{kind_of, entry}
use Rattle.opgen_spec.proofs.sound.Sound.{IsFew, IsSound, none_given}
use Rattle.opgen_document.specs.Document.{value_at, text_at, number_at, flag_at, count_at, items_at, small, version_of}
use Rattle.opgen_document.specs.Ranges.{outside, width_outside, coefficients_outside, denominator_outside}
use Rattle.opgen_entries.specs.kinds.Poly.{poly_of}
use Rattle.opgen_spec.proofs.Fine.{AreFine, IsFine, own, own_range, not_late}
use Rattle.opgen_document.proofs.Ranges.{inside, small_same, denominator_in}
use Rattle.opgen_entries.proofs.Arrays.{array_in}
use Rattle.opgen_spec.proofs.Ranges.{widest, width_in}
use Rattle.opgen_document.proofs.Values.{small_written}
use Rattle.opgen_spec.proofs.Versions.{one_is_first, in_late}
use Rattle.opgen_spec.proofs.Writing.{width_written, coefs_written}

record HasPoly (ms : Members) : Type 0 where
  fine : AreFine ms
  width : IsFine ms key.Width (width_outside 16 ms key.Width)
  out_lsb : IsFine ms key.OutLsb (outside (negsuc 15) (pos 0) (number_at ms key.OutLsb))
  coefs : IsFine ms key.Coefficients (coefficients_outside 2 5 ms)
  den : option_and_then (λ _. denominator_outside ms) (value_at ms key.Denominator) ≡ None

keys : (ms : Members) → AreFine ms → kind_of ms ≡ Some kind.Poly → HasPoly ms
unfolding entry
keys ms f e = record {
  fine = f;
  width = own ms kind.Poly key.Width f e refl refl;
  out_lsb = own ms kind.Poly key.OutLsb f e refl refl;
  coefs = own ms kind.Poly key.Coefficients f e refl refl;
  den = own_range ms kind.Poly key.Denominator f e refl;
}

-- an input below 1 of sixteen bits at most
below_one : (w : ℕ) → w ≤ 16 → small (neg_ℤ (pos w)) ≡ neg_ℤ (pos w)
below_one w few = sym (small_same (neg_ℤ (pos w)) (omega (arith, ints)) (omega (arith, ints)))

-- no version has a lower limit
sixteen : (ms : Members) → 16 ≤ widest ms
sixteen ms = go (count_at ms key.Version == 1)
  where
    go : (b : Bool) → 16 ≤ (if b then 32 else 48)
    go true = omega arith
    go false = omega arith

narrow : (ms : Members) → HasPoly ms → count_at ms key.Width ≤ 16
narrow ms h = (width_in 16 ms key.Width (omega arith) h.width).1

out_bounds : (ms : Members) → HasPoly ms → (negsuc 15 ≤ℤ number_at ms key.OutLsb) × (number_at ms key.OutLsb ≤ℤ pos 0)
out_bounds ms h = inside (negsuc 15) (pos 0) (number_at ms key.OutLsb) h.out_lsb.within

poly_in : (ms : Members) → HasPoly ms → IsPoly (poly_of ms)
poly_in ms h =
    let (fewest, _) = width_in 16 ms key.Width (omega arith) h.width in
    let few = narrow ms h in
    let lsb = below_one (count_at ms key.Width) few in
    let (least, most) = out_bounds ms h in
    let same = small_same (number_at ms key.OutLsb) (omega (arith, ints, least)) (omega (arith, ints, most)) in
    let array = array_in 2 5 1073741824 (items_at ms key.Coefficients) h.coefs.within in
    let (positive, small) = denominator_in ms h.den in
    record {
      input = record {
        fewest = some_bits (flag_at ms key.Signed) (count_at ms key.Width) fewest;
        most = omega (arith, few);
        lsb = subst IsPower (sym lsb) (omega (arith, ints, few), omega (arith, ints));
      };
      unsigned = refl;
      narrow = few;
      below_one = lsb;
      out_lsb = subst (λ n. (negsuc 15 ≤ℤ n) × (n ≤ℤ pos 0)) same (out_bounds ms h);
      some = array.some;
      few = array.few;
      coefs = array.each;
      positive = positive;
      small = small;
      built = refl;
    }

pub poly : IsSound kind.Poly
unfolding entry
poly = record {
  kind_is = λ ms. refl;
  ranges = λ ms f e. poly_in ms (keys ms f e);
  inputs = λ ms f e. all_one (IsFew ms) _ (omega (arith, narrow ms (keys ms f e), sixteen ms));
  written = λ ms f e.
      let h = keys ms f e in
      let (least, most) = out_bounds ms h in
      record {
        width_written = width_written 16 ms key.Width (omega arith) h.width h.width.typed;
        below_one = below_one (count_at ms key.Width) (narrow ms h);
        out_lsb = small_written (value_at ms key.OutLsb) h.out_lsb.there h.out_lsb.typed
            (omega (arith, ints, least), omega (arith, ints, most));
        coefs = coefs_written ms f;
      };
  agrees = λ ms. tt;
  marked = λ ms asked. cc;
  has = λ ms f e is. not_late ms kind.Poly f e refl (one_is_first ms f is);
  names = λ ms f e. none_given (text_at ms key.Name);
  chosen = λ ms f e may there. record { late = in_late (version_of ms) may; value = λ ms. refl; range = λ ms. refl };
}
