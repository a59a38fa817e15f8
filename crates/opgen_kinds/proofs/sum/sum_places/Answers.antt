use Rattle.std.proofs.Common.{SFits, w32}
use Rattle.std.proofs.lemmas.Int.{to_z-of_z}
use Rattle.opgen_kinds.specs.Sum.{sum_shift}
use Rattle.opgen_ports.proofs.Bounds.{room_bound}
use Rattle.opgen_kinds.proofs.sum.sum_places.Goals as goal

pub in_places-requires-clause-below : goal.in_places-requires-clause-below
in_places-requires-clause-below c =
    let s = c.args.sum.now in
    let fits : SFits w32 c.sum_shift.result = record { sfits = c.sum_shift.type_inv } in
    simp (to_z-of_z, fits) (rw c.sum_shift.ensures.value (room_bound c.sum_reach.result.below s.input.width (sum_shift s)
    c.sum_reach.ensures.below c.requires.room))

pub in_places-requires-clause-above : goal.in_places-requires-clause-above
in_places-requires-clause-above c =
    let s = c.args.sum.now in
    let fits : SFits w32 c.sum_shift.result = record { sfits = c.sum_shift.type_inv } in
    simp (to_z-of_z, fits) (rw c.sum_shift.ensures.value (room_bound c.sum_reach.result.above s.input.width (sum_shift s)
    c.sum_reach.ensures.above c.requires.room))
