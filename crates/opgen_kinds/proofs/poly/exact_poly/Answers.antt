use Rattle.std.proofs.Common.{◌≡◌, ◌*◌, ◌≤◌, ◌^◌, FitsSigned, refl, rules, arith}
use Rattle.std.specs.Prelude.{pos, ◌*ℤ◌, unsigned_abs}
use Rattle.std.specs.Int.{w64, w128}
use Rattle.std.proofs.lemmas.Int.{ints, to_z-of_z}
use Rattle.std.proofs.Math.Nat.{mul-le-mul}
use Rattle.opgen_num.proofs.BitLength.{power_order}
use Rattle.opgen_kinds.specs.Horner.{degree}
use Rattle.opgen_ports.proofs.Bounds.{products, few_units}
use Rattle.opgen_kinds.proofs.of_kind.Terms.{few_powers}
use Rattle.opgen_ports.proofs.Roundings.{positive_units}
use Rattle.opgen_kinds.proofs.poly.exact_poly.Goals as goal

pub raised-numerator-requires-clause-small : goal.raised-numerator-requires-clause-small
raised-numerator-requires-clause-small c =
    let fits_total : FitsSigned w128 c.poly_terms-total.result = search rules in
    let bound : unsigned_abs c.poly_terms-total.result ≤ 5 * 2 ^ 94 = c.poly_terms-total.ensures.bound in
    let all = mul-le-mul {n₁ = unsigned_abs c.poly_terms-total.result} {m₁ = 2 ^ c.result_places.result} {n₂ = 5 * 2 ^ 94} {m₂ = 2 ^ 16} bound
    (power_order c.result_places.result 16 c.result_places.ensures.few) in
    simp to_z-of_z (omega (arith, all))

pub raised-denominator-requires-clause-small : goal.raised-denominator-requires-clause-small
raised-denominator-requires-clause-small c =
    let p = c.args.poly.now in
    let fits_den : FitsSigned w64 p.den = omega (arith, ints, c.requires.poly.positive, c.requires.poly.small) in
    let fits_from : FitsSigned w128 c.from.result = search rules in
    let from : c.from.result ≡ p.den = simp to_z-of_z at c.from.ensures in
    let all = products (unsigned_abs p.den) (2 ^ (p.input.width * degree p)) 30 64
    (few_units (2 ^ 30) p.den c.requires.poly.positive c.requires.poly.small)
    (power_order (p.input.width * degree p) 64 (few_powers p c.requires.poly)) in
    simp to_z-of_z (rw (from, c.degree.ensures.value) (omega (arith, all)))

pub raised-denominator-requires-clause-few : goal.raised-denominator-requires-clause-few
raised-denominator-requires-clause-few c = rw c.degree.ensures.value (omega (arith, few_powers c.args.poly.now c.requires.poly))

pub returns-clause-positive : goal.returns-clause-positive
returns-clause-positive c =
    let p = c.args.poly.now in
    let fits_den : FitsSigned w64 p.den = omega (arith, ints, c.requires.poly.positive, c.requires.poly.small) in
    let fits_from : FitsSigned w128 c.from.result = search rules in
    let from : c.from.result ≡ p.den = simp to_z-of_z at c.from.ensures in
    let fits : FitsSigned w128 c.raised-denominator.result = search rules in
    let den : c.raised-denominator.result ≡ p.den *ℤ pos (2 ^ (p.input.width * c.degree.result)) = rw from at simp to_z-of_z at
    c.raised-denominator.ensures.value in
    simp to_z-of_z (rw den (positive_units p.den (p.input.width * c.degree.result) c.requires.poly.positive))

pub returns-clause-value : goal.returns-clause-value
returns-clause-value c =
    let p = c.args.poly.now in
    let fits_x = c.ranges.x in
    let fits_den : FitsSigned w64 p.den = omega (arith, ints, c.requires.poly.positive, c.requires.poly.small) in
    let fits_from : FitsSigned w128 c.from.result = search rules in
    let fits_total : FitsSigned w128 c.poly_terms-total.result = search rules in
    let fits_numerator : FitsSigned w128 c.raised-numerator.result = search rules in
    let fits_denominator : FitsSigned w128 c.raised-denominator.result = search rules in
    let from : c.from.result ≡ p.den = simp to_z-of_z at c.from.ensures in
    let x = simp to_z-of_z at c.unsigned_abs.ensures.value in
    let total = rw x at c.poly_terms-total.ensures.value in
    let den = rw (from, c.degree.ensures.value) at simp to_z-of_z at c.raised-denominator.ensures.value in
    let num = rw (total, c.result_places.ensures.value) at simp to_z-of_z at c.raised-numerator.ensures.value in
    simp to_z-of_z (rw (num, den) refl)
