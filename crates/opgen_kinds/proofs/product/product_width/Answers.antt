use Rattle.std.proofs.Common.{◌≡◌, ◌∙◌, ap, SFits, w32, arith}
use Rattle.std.specs.Prelude.{pos, ◌≤ℤ◌}
use Rattle.std.proofs.lemmas.Int.{ints, to_z-of_z}
use Rattle.opgen_kinds.specs.Product.{product_shift, product_reach}
use Rattle.opgen_ports.specs.Reaches.{width_of, places_up}
use Rattle.opgen_kinds.proofs.of_kind.ProductWidths.{shifted_up-width, reach_small}
use Rattle.opgen_kinds.proofs.product.product_width.Goals as goal

pub width_of-requires-clause-below : goal.width_of-requires-clause-below
width_of-requires-clause-below c = reach_small c.args.product.now c.product_reach.result.below c.requires.product
    c.product_reach.ensures.below

pub width_of-requires-clause-above : goal.width_of-requires-clause-above
width_of-requires-clause-above c = reach_small c.args.product.now c.product_reach.result.above c.requires.product
    c.product_reach.ensures.above

pub returns-then-shift-gt0-clause-value : goal.returns-then-shift-gt0-clause-value
returns-then-shift-gt0-clause-value c =
    let p = c.args.product.now in
    let fits : SFits w32 c.product_shift-shift.result = record { sfits = c.product_shift-shift.type_inv } in
    let width : c.width_of.result ≡ width_of (product_reach p) = c.width_of.ensures.value ∙ ap width_of c.product_reach.ensures.value in
    let shift = c.product_shift-shift.ensures.value in
    let places : c.places_up.result ≡ places_up (product_shift p) = rw shift at simp (to_z-of_z, fits) at c.places_up.ensures in
    let up : pos 0 ≤ℤ product_shift p = omega (arith, ints, shift, c.if-shift-gt0.true) in
    omega (arith, width, places, shifted_up-width p c.requires.product up)
