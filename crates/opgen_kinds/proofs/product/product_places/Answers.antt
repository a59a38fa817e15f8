use Rattle.std.proofs.Common.{SFits, w32}
use Rattle.std.proofs.lemmas.Int.{to_z-of_z}
use Rattle.opgen_kinds.proofs.of_kind.ProductWidths.{not_up_bound}
use Rattle.opgen_kinds.proofs.product.product_places.Goals as goal

pub in_places-requires-clause-below : goal.in_places-requires-clause-below
in_places-requires-clause-below c =
    let p = c.args.product.now in
    let fits : SFits w32 c.product_shift.result = record { sfits = c.product_shift.type_inv } in
    simp (to_z-of_z, fits) (rw c.product_shift.ensures.value (not_up_bound p c.product_reach.result.below c.requires.product
    c.product_reach.ensures.below c.requires.high))

pub in_places-requires-clause-above : goal.in_places-requires-clause-above
in_places-requires-clause-above c =
    let p = c.args.product.now in
    let fits : SFits w32 c.product_shift.result = record { sfits = c.product_shift.type_inv } in
    simp (to_z-of_z, fits) (rw c.product_shift.ensures.value (not_up_bound p c.product_reach.result.above c.requires.product
    c.product_reach.ensures.above c.requires.high))
