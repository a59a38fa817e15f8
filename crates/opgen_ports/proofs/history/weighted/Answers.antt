use Rattle.std.proofs.Common.{◌≡◌, ◌+◌, ◌<◌, ◌≤◌, ◌^◌, get_or, length, FitsSigned, arith}
use Rattle.std.specs.Prelude.{ℤ, pos, ◌+ℤ◌, ◌*ℤ◌, unsigned_abs}
use Rattle.std.specs.Int.{w64, w128}
use Rattle.std.proofs.lemmas.Int.{ints, to_z-of_z}
use Rattle.opgen_ports.specs.Ports.{recent_numbers, one_input}
use Rattle.opgen_num.proofs.BitLength.{power_order}
use Rattle.opgen_ports.proofs.Magnitudes.{product_within, fits_small}
use Rattle.opgen_ports.proofs.WeightedSums.{sum_step, bound_step, sum_small, taps_bound}
use Rattle.opgen_ports.proofs.history.weighted.Goals as goal

pub product-total-requires-clause-input : goal.product-total-requires-clause-input
product-total-requires-clause-input c =
    let width = c.args.format.width in
    let few : unsigned_abs c.recent.result ≤ 2 ^ 48 = omega
    (arith, c.recent.ensures.bound, power_order width 48 c.requires.format.most) in
    let fits_recent : FitsSigned w128 c.recent.result = fits_small _ (omega (arith, few)) in
    simp to_z-of_z (omega (arith, few))

pub product-total-requires-clause-coef : goal.product-total-requires-clause-coef
product-total-requires-clause-coef c =
    let coef : ℤ = get_or c.args.coefs.now c.coefs.coef-index (pos 0) in
    let small : unsigned_abs coef ≤ 2 ^ 30 = c.requires.small c.coefs.coef-index (pos 0) c.coefs-test.true in
    let fits_coef : FitsSigned w64 coef = omega (arith, ints) in
    simp to_z-of_z small

pub overflow_add-total : goal.overflow_add-total
overflow_add-total c =
    let coefs = c.args.coefs.now in
    let width = c.args.format.width in
    let i = c.coefs.coef-index in
    let here : i < length coefs = c.coefs-test.true in
    let coef : ℤ = get_or coefs i (pos 0) in
    let small : unsigned_abs coef ≤ 2 ^ 30 = c.requires.small i (pos 0) here in
    let fits_coef : FitsSigned w64 coef = omega (arith, ints) in
    let few : unsigned_abs c.recent.result ≤ 2 ^ 48 = omega
    (arith, c.recent.ensures.bound, power_order width 48 c.requires.format.most) in
    let fits_recent : FitsSigned w128 c.recent.result = fits_small _ (omega (arith, few)) in
    let product : c.product-total.result ≡ c.recent.result *ℤ coef = simp to_z-of_z at c.product-total.ensures in
    let term_bound : unsigned_abs c.product-total.result ≤ 2 ^ (width + 30) = rw product
    (product_within c.recent.result coef width 30 c.recent.ensures.bound small) in
    let fits_product : FitsSigned w128 c.product-total.result = fits_small _
    (omega (arith, term_bound, power_order (width + 30) 78 (omega (arith, c.requires.format.most)))) in
    let bound = bound_step c.coefs.total c.product-total.result i (2 ^ (width + 30))
    (rw c.coefs.total-is at c.coefs.invariant.bound) term_bound in
    rw c.coefs.total-is (simp to_z-of_z (fits_small _ (sum_small _ i width bound here c.requires.few c.requires.format.most)))

pub coefs-preserved : goal.coefs-preserved
coefs-preserved c =
    let coefs = c.args.coefs.now in
    let width = c.args.format.width in
    let i = c.coefs.coef-index in
    let here : i < length coefs = c.coefs-test.true in
    let coef : ℤ = get_or coefs i (pos 0) in
    let small : unsigned_abs coef ≤ 2 ^ 30 = c.requires.small i (pos 0) here in
    let fits_coef : FitsSigned w64 coef = omega (arith, ints) in
    let few : unsigned_abs c.recent.result ≤ 2 ^ 48 = omega
    (arith, c.recent.ensures.bound, power_order width 48 c.requires.format.most) in
    let fits_recent : FitsSigned w128 c.recent.result = fits_small _ (omega (arith, few)) in
    let product : c.product-total.result ≡ c.recent.result *ℤ coef = simp to_z-of_z at c.product-total.ensures in
    let term_bound : unsigned_abs c.product-total.result ≤ 2 ^ (width + 30) = rw product
    (product_within c.recent.result coef width 30 c.recent.ensures.bound small) in
    let fits_product : FitsSigned w128 c.product-total.result = fits_small _
    (omega (arith, term_bound, power_order (width + 30) 78 (omega (arith, c.requires.format.most)))) in
    let term : c.product-total.result ≡ recent_numbers (one_input c.args.format) c.args.history.now 0 c.coefs.ago *ℤ coef
    = rw c.recent.ensures.value at product in
    let bound = bound_step c.coefs.total c.product-total.result i (2 ^ (width + 30))
    (rw c.coefs.total-is at c.coefs.invariant.bound) term_bound in
    let fits_sum : FitsSigned w128 (c.coefs.total +ℤ c.product-total.result) = fits_small _
    (sum_small _ i width bound here c.requires.few c.requires.format.most) in
    let value = sum_step c.coefs.total c.product-total.result _ c.coefs.ago i coefs
    (recent_numbers (one_input c.args.format) c.args.history.now 0) here term (rw c.coefs.total-is at c.coefs.invariant.value) in
    rw c.coefs.total-is (simp to_z-of_z (record { value = value; place = omega (arith, c.coefs.invariant.place); bound = bound }))

pub returns-clause-bound : goal.returns-clause-bound
returns-clause-bound c =
    taps_bound _ c.coefs.coef-index c.args.format.width c.coefs.invariant.bound
    (omega (arith, c.requires.few, c.coefs.auto.coef-index-end))
