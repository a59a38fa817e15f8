use Rattle.std.proofs.Common.{◌≡◌, FitsSigned, SFits, w32, rules, arith}
use Rattle.std.proofs.lemmas.Int.{to_z-of_z}
use Rattle.opgen_kinds.specs.Sum.{sum_shift, sum_places}
use Rattle.opgen_kinds.specs.Taps.{direct, taps_format, taps_meaning, taps_acceptance}
use Rattle.opgen_ports.proofs.Bounds.{room_bound}
use Rattle.opgen_ports.proofs.Accepted.{accepted_ranges}
use Rattle.opgen_kinds.proofs.of_kind.Taps.{accepted_taps_room, taps_have_room}
use Rattle.opgen_kinds.proofs.taps.Taps.output.Goals as goal

pub in_places-requires-clause-below : goal.in_places-requires-clause-below
in_places-requires-clause-below c =
    let f = c.args.self.now in
    let fits : SFits w32 c.shift.result = record { sfits = c.shift.type_inv } in
    simp (to_z-of_z, fits) (rw c.shift.ensures (room_bound c.reach_over-reach.result.below f.input.width (sum_shift (direct f))
    c.reach_over-reach.ensures.below (accepted_taps_room f c.requires)))

pub in_places-requires-clause-above : goal.in_places-requires-clause-above
in_places-requires-clause-above c =
    let f = c.args.self.now in
    let fits : SFits w32 c.shift.result = record { sfits = c.shift.type_inv } in
    simp (to_z-of_z, fits) (rw c.shift.ensures (room_bound c.reach_over-reach.result.above f.input.width (sum_shift (direct f))
    c.reach_over-reach.ensures.above (accepted_taps_room f c.requires)))

pub returns-clause-few : goal.returns-clause-few
returns-clause-few c =
    let f = c.args.self.now in
    let fits_shift : FitsSigned w32 c.shift.result = search rules in
    let fits_lsb : FitsSigned w32 f.out_lsb = search rules in
    let placed : c.in_places.result ≡ sum_places (direct f) =
    rw c.as_slice.ensures at rw (c.reach_over-reach.ensures.value, c.shift.ensures) at simp to_z-of_z at c.in_places.ensures.value in
    let same : c.covering.result ≡ taps_format f = rw placed at simp to_z-of_z at c.covering.ensures in
    rw same (omega (arith, taps_have_room f c.requires, (accepted_ranges (taps_meaning f) (taps_acceptance f) c.requires).input.most))
