use Rattle.std.proofs.Common.{◌≡◌, ◌+◌, ◌≤◌, ◌^◌, ◌∙◌, ap, get_or, FitsSigned, rules, arith}
use Rattle.std.specs.Prelude.{ℤ, pos, ◌*ℤ◌, unsigned_abs}
use Rattle.std.specs.Int.{w64, w128}
use Rattle.std.proofs.lemmas.Int.{ints, to_z-of_z}
use Rattle.opgen_num.proofs.BitLength.{power_order}
use Rattle.opgen_num.specs.Rounding.{nearest}
use Rattle.opgen_kinds.specs.Horner.{result_places, poly_guard}
use Rattle.opgen_ports.proofs.Bounds.{products, few_units}
use Rattle.opgen_ports.proofs.Magnitudes.{product_within}
use Rattle.opgen_kinds.proofs.of_kind.Results.{guarded_small, few_guarded_bits}
use Rattle.opgen_kinds.proofs.poly.Poly.guarded.Goals as goal

pub raised-requires-clause-small : goal.raised-requires-clause-small
raised-requires-clause-small c =
    let p = c.args.self.now in
    let k = c.result_places.result + c.guard_bits.result in
    let t : ℤ = get_or p.coefs c.args.place (pos 0) in
    let few_bits : unsigned_abs t ≤ 2 ^ 30 = c.requires.poly.coefs c.args.place (pos 0) c.requires.place in
    let fits_coef : FitsSigned w64 t = omega (arith, ints) in
    let fits_from : FitsSigned w128 c.from.result = search rules in
    let from : c.from.result ≡ t = simp to_z-of_z at rw c.as_slice.ensures at c.from.ensures in
    let all = products (unsigned_abs t) (2 ^ k) 30 20 few_bits
    (power_order k 20 (omega (arith, c.result_places.ensures.few, c.guard_bits.ensures.few))) in
    simp to_z-of_z (rw from (omega (arith, all)))

pub nearest-requires-clause-small : goal.nearest-requires-clause-small
nearest-requires-clause-small c =
    let p = c.args.self.now in
    let k = c.result_places.result + c.guard_bits.result in
    let t : ℤ = get_or p.coefs c.args.place (pos 0) in
    let few_bits : unsigned_abs t ≤ 2 ^ 30 = c.requires.poly.coefs c.args.place (pos 0) c.requires.place in
    let fits_coef : FitsSigned w64 t = omega (arith, ints) in
    let fits_den : FitsSigned w64 p.den = omega (arith, ints, c.requires.poly.positive, c.requires.poly.small) in
    let fits_from : FitsSigned w128 c.from.result = search rules in
    let fits_into : FitsSigned w128 c.into.result = search rules in
    let fits_raised : FitsSigned w128 c.raised.result = search rules in
    let from : c.from.result ≡ t = simp to_z-of_z at rw c.as_slice.ensures at c.from.ensures in
    let into : c.into.result ≡ p.den = simp to_z-of_z at c.into.ensures in
    let few = few_units (2 ^ 30) p.den c.requires.poly.positive c.requires.poly.small in
    let raised : c.raised.result ≡ t *ℤ pos (2 ^ k) = rw from at simp to_z-of_z at c.raised.ensures.value in
    let top : unsigned_abs (t *ℤ pos (2 ^ k)) ≤ 2 ^ (30 + 20) = product_within t (pos (2 ^ k)) 30 20 few_bits
    (power_order k 20 (omega (arith, c.result_places.ensures.few, c.guard_bits.ensures.few))) in
    simp to_z-of_z (rw (raised, into) (omega (arith, top, few)))

pub returns-clause-value : goal.returns-clause-value
returns-clause-value c =
    let p = c.args.self.now in
    let k = c.result_places.result + c.guard_bits.result in
    let t : ℤ = get_or p.coefs c.args.place (pos 0) in
    let few_bits : unsigned_abs t ≤ 2 ^ 30 = c.requires.poly.coefs c.args.place (pos 0) c.requires.place in
    let fits_coef : FitsSigned w64 t = omega (arith, ints) in
    let fits_den : FitsSigned w64 p.den = omega (arith, ints, c.requires.poly.positive, c.requires.poly.small) in
    let fits_from : FitsSigned w128 c.from.result = search rules in
    let fits_into : FitsSigned w128 c.into.result = search rules in
    let fits_raised : FitsSigned w128 c.raised.result = search rules in
    let from : c.from.result ≡ t = simp to_z-of_z at rw c.as_slice.ensures at c.from.ensures in
    let into : c.into.result ≡ p.den = simp to_z-of_z at c.into.ensures in
    let raised : c.raised.result ≡ t *ℤ pos (2 ^ k) = rw from at simp to_z-of_z at c.raised.ensures.value in
    let places : k ≡ result_places p + poly_guard p = omega (arith, c.result_places.ensures.value, c.guard_bits.ensures.value) in
    let value : c.nearest.result ≡ nearest (t *ℤ pos (2 ^ k)) p.den = rw (raised, into) at simp to_z-of_z at c.nearest.ensures.value in
    let fits : FitsSigned w128 c.nearest.result = search rules in
    simp to_z-of_z (value ∙ ap (λ j. nearest (t *ℤ pos (2 ^ j)) p.den) places)

pub returns-clause-bound : goal.returns-clause-bound
returns-clause-bound c =
    let p = c.args.self.now in
    let small = guarded_small p (get_or p.coefs c.args.place (pos 0)) c.requires.poly (c.requires.poly.coefs c.args.place (pos 0) c.requires.place) in
    let few = power_order _ 50 (few_guarded_bits p c.requires.poly) in
    rw (returns-clause-value c) (omega (arith, small, few))
