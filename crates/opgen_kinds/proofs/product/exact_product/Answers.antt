use Rattle.std.proofs.Common.{◌≡◌, ◌^◌, FitsSigned, refl, rules, arith}
use Rattle.std.specs.Prelude.{pos, ◌*ℤ◌}
use Rattle.std.specs.Int.{w32, w128}
use Rattle.std.proofs.lemmas.Int.{ints, to_z-of_z}
use Rattle.std.proofs.lemmas.Nat.{pow_pos}
use Rattle.opgen_kinds.specs.Product.{product_shift}
use Rattle.opgen_ports.specs.Reaches.{places_up, places_down}
use Rattle.opgen_ports.proofs.Bounds.{few_down}
use Rattle.opgen_ports.proofs.Magnitudes.{fits_small, number_fits}
use Rattle.opgen_kinds.proofs.of_kind.ProductWidths.{product_room, product_small}
use Rattle.opgen_num.proofs.BitLength.{power_order}
use Rattle.opgen_kinds.proofs.product.exact_product.Goals as goal

pub raised-numerator-requires-clause-small : goal.raised-numerator-requires-clause-small
raised-numerator-requires-clause-small c =
    let p = c.args.product.now in
    let fits_a : FitsSigned w128 c.args.a = number_fits p.a _ c.requires.product.a c.requires.a in
    let fits_b : FitsSigned w128 c.args.b = number_fits p.b _ c.requires.product.b c.requires.b in
    let fits : FitsSigned w128 (c.args.a *ℤ c.args.b) = fits_small _
    (omega (arith, product_small p c.args.a c.args.b c.requires.product c.requires.a c.requires.b)) in
    let fits_shift : FitsSigned w32 c.product_shift-shift.result = search rules in
    let raised_up : c.places_up.result ≡ places_up (product_shift p) = rw c.product_shift-shift.ensures.value at simp to_z-of_z at
    c.places_up.ensures in
    simp to_z-of_z (rw raised_up (omega (
      arith,
      product_room p c.args.a c.args.b c.requires.product c.requires.a c.requires.b
          c.requires.narrow,
    )))

pub overflow_mul-a : goal.overflow_mul-a
overflow_mul-a c =
    let p = c.args.product.now in
    let fits_a : FitsSigned w128 c.args.a = number_fits p.a _ c.requires.product.a c.requires.a in
    let fits_b : FitsSigned w128 c.args.b = number_fits p.b _ c.requires.product.b c.requires.b in
    simp to_z-of_z (fits_small _ (omega (arith, product_small p c.args.a c.args.b c.requires.product c.requires.a c.requires.b)))

pub raised-denominator-requires-clause-small : goal.raised-denominator-requires-clause-small
raised-denominator-requires-clause-small c =
    let p = c.args.product.now in
    let fits_shift : FitsSigned w32 c.product_shift-shift.result = search rules in
    let raised_down : c.places_down.result ≡ places_down (product_shift p) = rw c.product_shift-shift.ensures.value at simp to_z-of_z at
    c.places_down.ensures in
    rw raised_down (omega (arith, power_order (places_down (product_shift p)) 48 (few_down 47 (product_shift p) c.requires.low)))

pub raised-denominator-requires-clause-few : goal.raised-denominator-requires-clause-few
raised-denominator-requires-clause-few c =
    let fits_shift : FitsSigned w32 c.product_shift-shift.result = search rules in
    let raised_down : c.places_down.result ≡ places_down (product_shift c.args.product.now) = rw c.product_shift-shift.ensures.value at simp
    to_z-of_z at c.places_down.ensures in
    omega (arith, raised_down, few_down 47 (product_shift c.args.product.now) c.requires.low)

pub returns-clause-positive : goal.returns-clause-positive
returns-clause-positive c = omega (arith, ints, c.raised-denominator.ensures.value, pow_pos c.places_down.result)

pub returns-clause-value : goal.returns-clause-value
returns-clause-value c =
    let p = c.args.product.now in
    let fits_a : FitsSigned w128 c.args.a = number_fits p.a _ c.requires.product.a c.requires.a in
    let fits_b : FitsSigned w128 c.args.b = number_fits p.b _ c.requires.product.b c.requires.b in
    let fits : FitsSigned w128 (c.args.a *ℤ c.args.b) = fits_small _
    (omega (arith, product_small p c.args.a c.args.b c.requires.product c.requires.a c.requires.b)) in
    let fits_numerator : FitsSigned w128 c.raised-numerator.result = search rules in
    let fits_denominator : FitsSigned w128 c.raised-denominator.result = search rules in
    let fits_shift : FitsSigned w32 c.product_shift-shift.result = search rules in
    let raised_up : c.places_up.result ≡ places_up (product_shift p) = rw c.product_shift-shift.ensures.value at simp to_z-of_z at
    c.places_up.ensures in
    let raised_down : c.places_down.result ≡ places_down (product_shift p) = rw c.product_shift-shift.ensures.value at simp to_z-of_z at
    c.places_down.ensures in
    let num : c.raised-numerator.result ≡ (c.args.a *ℤ c.args.b) *ℤ pos (2 ^ places_up (product_shift p)) =
    rw raised_up at simp to_z-of_z at c.raised-numerator.ensures.value in
    let den : c.raised-denominator.result ≡ pos (2 ^ c.places_down.result) = omega (arith, ints, c.raised-denominator.ensures.value) in
    simp to_z-of_z (rw (num, den, raised_down) refl)
