-- What holds of products: the format holds them, and they are within their limits.
use Rattle.std.proofs.Common.{arith, ◌≤◌, refl, subst}
use Rattle.std.proofs.lemmas.Int.{ints}
use Rattle.std.proofs.lemmas.Nat.{pow_pos}
use Rattle.std.specs.Prelude.{ℤ, pos, ◌*ℤ◌}
use Rattle.opgen_num.specs.declared.mode.Mode.TheVariants.{Faithful}
use Rattle.opgen_kinds.specs.declared.product.Product.{Product}
use Rattle.opgen_ports.specs.Ports.{HasWidth}
use Rattle.opgen_ports.specs.Good.{IsGoodRatio}
use Rattle.opgen_kinds.specs.Product.{exact_product, product_shift, product_places, product_format, product_need, product_meaning, product_acceptance}
use Rattle.opgen_ports.specs.Limits.{most_signal}
use Rattle.opgen_ports.specs.Reaches.{places_down, up}
use Rattle.opgen_ports.specs.Spans.{IsOf}
use Rattle.opgen_ports.proofs.Covered.{rounded_within, covered}
use Rattle.opgen_ports.proofs.In128.{small_in128, units_in128}
use Rattle.opgen_ports.proofs.InputPorts.{all_one, all_two, input_bit, HasBit}
use Rattle.opgen_ports.proofs.Lawful.{IsLawful}
use Rattle.opgen_ports.proofs.Magnitudes.{unsigned_abs-product}
use Rattle.opgen_kinds.proofs.of_kind.ProductWidths.{products_span, product_room}
use Rattle.opgen_ports.proofs.Versions.{signal_limit}
use Rattle.opgen_ports.proofs.Widths.{some_width}

pub products_held : (p : Product) (a b : ℤ) → IsOf p.a a → IsOf p.b b → (y : ℤ) → IsGoodRatio Faithful (exact_product p a b) y
    → IsOf (product_format p) y
products_held p a b of_a of_b y good =
    let span = products_span p in
    let ratio = exact_product p a b in
    covered (product_places p) p.out_lsb y
    (rounded_within ratio.num ratio.den (product_places p).below (product_places p).above y
    (omega (arith, ints, pow_pos (places_down (product_shift p)))) (span.low (a, b) (of_a, of_b)) (span.high (a, b) (of_a, of_b)) good)

-- what holds of its meaning
pub product_lawful : (p : Product) → IsLawful (product_meaning p) (product_acceptance p)
product_lawful p = record {
  some_input = λ is. omega arith;
  input_bits = λ is. all_two HasBit _ _ (input_bit p.a is.a) (input_bit p.b is.b);
  wide = λ version is. all_one (HasWidth (most_signal version)) _ (some_width (product_places p), omega (arith, is.narrow (product_need p) refl));
  limit = λ version h. h;
  least = λ h. h;
  room = λ version within high. tt;
  held = λ fits a b of_a of_b y good. products_held p a b of_a of_b y good;
  in128 = λ version is inputs of.
      let narrow : product_need p ≤ 96 = omega (arith, is.narrow (product_need p) refl, (signal_limit version).1) in
      let room = product_room p (inputs 0 0) (inputs 1 0) is.ranges (of 0 0 (omega arith)) (of 1 0 (omega arith)) (omega (arith, narrow)) in
      let same = unsigned_abs-product (inputs 0 0 *ℤ inputs 1 0) (pos (up (product_shift p))) in (
        small_in128 ((inputs 0 0 *ℤ inputs 1 0) *ℤ pos (up (product_shift p))) (omega (arith, room, same)),
        units_in128 (product_shift p) is.fine.0,
      );
  recalls = λ mode inputs others outputs same good.
      subst (λ b. IsGoodRatio mode (exact_product p (others 0 0) b) (outputs 0)) (same 1 0 (omega arith))
      (subst (λ a. IsGoodRatio mode (exact_product p a (inputs 1 0)) (outputs 0)) (same 0 0 (omega arith)) good);
}
