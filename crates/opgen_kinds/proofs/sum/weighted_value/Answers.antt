use Rattle.std.proofs.Common.{◌≡◌, ◌+◌, ◌≤◌, ◌^◌, FitsSigned, rules, arith, refl}
use Rattle.std.specs.Prelude.{pos, ◌*ℤ◌, unsigned_abs}
use Rattle.std.specs.Int.{w32, w64, w128}
use Rattle.std.proofs.lemmas.Int.{to_z-of_z}
use Rattle.opgen_ports.specs.Ports.{recent_numbers, weighted, one_input}
use Rattle.opgen_ports.specs.Reaches.{places_up, places_down, up, down}
use Rattle.opgen_ports.proofs.Bounds.{products, few_down, few_units}
use Rattle.opgen_ports.proofs.Roundings.{positive_units}
use Rattle.opgen_num.proofs.BitLength.{power_order}
use Rattle.opgen_kinds.proofs.sum.weighted_value.Goals as goal

pub raised-requires-clause-small : goal.raised-requires-clause-small
raised-requires-clause-small c =
    let width = c.args.input.width in
    let shift = c.args.shift in
    let fits_shift : FitsSigned w32 shift = search rules in
    let fits_total : FitsSigned w128 c.weighted-total.result = search rules in
    let room : width + places_up shift ≤ 80 = c.requires.room in
    let raised_up : c.places_up.result ≡ places_up shift = simp to_z-of_z at c.places_up.ensures in
    let all = products (unsigned_abs c.weighted-total.result) (2 ^ places_up shift) (width + 38) (places_up shift)
    c.weighted-total.ensures.bound (omega arith) in
    simp to_z-of_z (rw raised_up (omega (arith, all, power_order (width + 38 + places_up shift) 126 (omega (arith, room)))))

pub raised-requires-2-clause-small : goal.raised-requires-2-clause-small
raised-requires-2-clause-small c =
    let shift = c.args.shift in
    let fits_shift : FitsSigned w32 shift = search rules in
    let fits_den : FitsSigned w64 c.args.den = search rules in
    let fits_from : FitsSigned w128 c.from.result = search rules in
    let from : c.from.result ≡ c.args.den = simp to_z-of_z at c.from.ensures in
    let raised_down : c.places_down.result ≡ places_down shift = simp to_z-of_z at c.places_down.ensures in
    let all = products (unsigned_abs c.args.den) (2 ^ places_down shift) 30 48
    (few_units (2 ^ 30) c.args.den c.requires.positive c.requires.small)
    (power_order (places_down shift) 48 (few_down 47 shift c.requires.low)) in
    simp to_z-of_z (rw (from, raised_down) (omega (arith, all)))

pub returns-clause-value : goal.returns-clause-value
returns-clause-value c =
    let shift = c.args.shift in
    let fits_shift : FitsSigned w32 shift = search rules in
    let fits_den : FitsSigned w64 c.args.den = search rules in
    let fits_from : FitsSigned w128 c.from.result = search rules in
    let fits_total : FitsSigned w128 c.weighted-total.result = search rules in
    let fits_num : FitsSigned w128 c.raised.result = search rules in
    let fits_units : FitsSigned w128 c.raised-2.result = search rules in
    let from : c.from.result ≡ c.args.den = simp to_z-of_z at c.from.ensures in
    let raised_up : c.places_up.result ≡ places_up shift = simp to_z-of_z at c.places_up.ensures in
    let raised_down : c.places_down.result ≡ places_down shift = simp to_z-of_z at c.places_down.ensures in
    let num : c.raised.result ≡ weighted c.args.coefs.now (recent_numbers (one_input c.args.input) c.args.history.now 0) *ℤ pos (up shift) =
    rw (c.weighted-total.ensures.value, raised_up) at simp to_z-of_z at c.raised.ensures.value in
    let units : c.raised-2.result ≡ c.args.den *ℤ pos (down shift) = rw (from, raised_down) at simp to_z-of_z at c.raised-2.ensures.value in
    simp to_z-of_z (rw (num, units) refl)

pub returns-clause-positive : goal.returns-clause-positive
returns-clause-positive c =
    let fits_den : FitsSigned w64 c.args.den = search rules in
    let fits_from : FitsSigned w128 c.from.result = search rules in
    let fits_units : FitsSigned w128 c.raised-2.result = search rules in
    let from : c.from.result ≡ c.args.den = simp to_z-of_z at c.from.ensures in
    let units : c.raised-2.result ≡ c.args.den *ℤ pos (2 ^ c.places_down.result) = rw from at simp to_z-of_z at c.raised-2.ensures.value in
    simp to_z-of_z (rw units (positive_units c.args.den c.places_down.result c.requires.positive))
