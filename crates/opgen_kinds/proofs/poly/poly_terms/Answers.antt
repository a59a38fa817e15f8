use Rattle.std.proofs.Common.{◌≡◌, ◌+◌, ◌-◌, ◌*◌, ◌<◌, ◌≤◌, ◌^◌, ◌∙◌, ap, drop, get_or, length, FitsSigned, rules, arith}
use Rattle.std.specs.Prelude.{ℤ, pos, ◌+ℤ◌, ◌*ℤ◌, unsigned_abs}
use Rattle.std.specs.Int.{w64, w128}
use Rattle.std.proofs.lemmas.Int.{ints, to_z-of_z}
use Rattle.std.proofs.Math.Nat.{mul-le-mul_left}
use Rattle.opgen_num.proofs.BitLength.{power_order}
use Rattle.opgen_kinds.specs.Horner.{degree}
use Rattle.opgen_kinds.specs.Poly.{terms_from}
use Rattle.opgen_ports.proofs.Magnitudes.{fits_small}
use Rattle.opgen_kinds.proofs.of_kind.Terms.{factor_small, few_powers, next_power_small, next_power, places_next, terms_step}
use Rattle.opgen_ports.proofs.WeightedSums.{bound_step}
use Rattle.opgen_kinds.proofs.poly.poly_terms.Goals as goal

pub poly_term-total-requires-clause-small : goal.poly_term-total-requires-clause-small
poly_term-total-requires-clause-small c =
    let p = c.args.poly.now in
    let w = p.input.width in
    let i = c.coefs.coef-index in
    let here : i < length p.coefs = rw c.as_slice-coef-items.ensures at c.coefs-test.true in
    let factor = factor_small c.args.x w (degree p) i (omega (arith, c.requires.x)) (omega (arith, here)) in
    rw (c.coefs.invariant.power, c.coefs.invariant.places)
    (omega (arith, factor, power_order (w * degree p) 64 (few_powers p c.requires.poly)))

pub poly_term-total-requires-clause-coef : goal.poly_term-total-requires-clause-coef
poly_term-total-requires-clause-coef c =
    let p = c.args.poly.now in
    let i = c.coefs.coef-index in
    let same = c.as_slice-coef-items.ensures in
    let here : i < length p.coefs = rw same at c.coefs-test.true in
    let small : unsigned_abs (get_or p.coefs i (pos 0)) ≤ 2 ^ 30 = c.requires.poly.coefs i (pos 0) here in
    let fits_coef : FitsSigned w64 (get_or p.coefs i (pos 0)) = omega (arith, ints) in
    rw same (simp to_z-of_z small)

pub poly_term-total-requires-clause-few : goal.poly_term-total-requires-clause-few
poly_term-total-requires-clause-few c =
    let p = c.args.poly.now in
    let w = p.input.width in
    let less : w * (degree p - c.coefs.coef-index) ≤ w * degree p = mul-le-mul_left w (omega arith) in
    rw c.coefs.invariant.places (omega (arith, less, few_powers p c.requires.poly))

pub overflow_mul-power : goal.overflow_mul-power
overflow_mul-power c =
    let p = c.args.poly.now in
    let i = c.coefs.coef-index in
    let here : i < length p.coefs = rw c.as_slice-coef-items.ensures at c.coefs-test.true in
    let small = next_power_small c.args.x p.input.width i (omega (arith, c.requires.x)) c.requires.poly.narrow
    (omega (arith, here, c.requires.poly.few)) in
    rw c.coefs.invariant.power (omega (arith, small))

pub overflow_add-total : goal.overflow_add-total
overflow_add-total c =
    let p = c.args.poly.now in
    let i = c.coefs.coef-index in
    let here : i < length p.coefs = rw c.as_slice-coef-items.ensures at c.coefs-test.true in
    let fits_term : FitsSigned w128 c.poly_term-total.result = search rules in
    let term_bound : unsigned_abs c.poly_term-total.result ≤ 2 ^ 94 = c.poly_term-total.ensures.bound in
    let bound = bound_step c.coefs.total c.poly_term-total.result i (2 ^ 94) (rw c.coefs.total-is at c.coefs.invariant.bound) term_bound in
    rw c.coefs.total-is (simp to_z-of_z (fits_small _ (omega (arith, bound, here, c.requires.poly.few))))

pub coefs-preserved : goal.coefs-preserved
coefs-preserved c =
    let p = c.args.poly.now in
    let w = p.input.width in
    let n = degree p in
    let i = c.coefs.coef-index in
    let same = c.as_slice-coef-items.ensures in
    let here : i < length p.coefs = rw same at c.coefs-test.true in
    let coef : ℤ = get_or p.coefs i (pos 0) in
    let small : unsigned_abs coef ≤ 2 ^ 30 = c.requires.poly.coefs i (pos 0) here in
    let fits_coef : FitsSigned w64 coef = omega (arith, ints) in
    let fits_term : FitsSigned w128 c.poly_term-total.result = search rules in
    let term : c.poly_term-total.result ≡ coef *ℤ pos (c.args.x ^ i * 2 ^ (w * (n - i))) =
    rw (c.coefs.invariant.power, c.coefs.invariant.places) at simp to_z-of_z at rw same at c.poly_term-total.ensures.value in
    let term_bound : unsigned_abs c.poly_term-total.result ≤ 2 ^ 94 = c.poly_term-total.ensures.bound in
    let bound = bound_step c.coefs.total c.poly_term-total.result i (2 ^ 94) (rw c.coefs.total-is at c.coefs.invariant.bound) term_bound in
    let fits_sum : FitsSigned w128 (c.coefs.total +ℤ c.poly_term-total.result) =
    fits_small _ (omega (arith, bound, here, c.requires.poly.few)) in
    let so_far = rw c.coefs.total-is at c.coefs.invariant.value in
    let value : ((c.coefs.total +ℤ c.poly_term-total.result) +ℤ terms_from (i + 1) (drop (i + 1) p.coefs) w n c.args.x)
    ≡ terms_from 0 p.coefs w n c.args.x =
    omega (arith, ints, terms_step i p.coefs w n c.args.x here, term, so_far) in
    let power : c.coefs.power * c.args.x ≡ c.args.x ^ (i + 1) = rw c.coefs.invariant.power (next_power c.args.x i) in
    let places : c.saturating_sub-places.result ≡ w * (n - (i + 1)) =
    c.saturating_sub-places.ensures ∙ ap (λ k. k - w) c.coefs.invariant.places ∙ places_next w n i in
    rw c.coefs.total-is (simp to_z-of_z (record { value = value; power = power; places = places; bound = bound }))

pub returns-clause-bound : goal.returns-clause-bound
returns-clause-bound c =
    omega (arith, c.coefs.invariant.bound, c.requires.poly.few, rw c.as_slice-coef-items.ensures at c.coefs.auto.coef-index-end)
