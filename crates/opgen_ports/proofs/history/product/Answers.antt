use Rattle.std.proofs.Common.{◌≡◌, ◌≤◌, ◌^◌, FitsSigned, refl, arith, rules}
use Rattle.std.specs.Prelude.{◌*ℤ◌, unsigned_abs}
use Rattle.std.specs.Int.{w128}
use Rattle.std.proofs.lemmas.Int.{to_z-of_z}
use Rattle.opgen_ports.proofs.Magnitudes.{product_within, fits_small}
use Rattle.opgen_ports.proofs.history.product.Goals as goal

pub overflow_mul-result : goal.overflow_mul-result
overflow_mul-result c =
    let n = c.ranges.n in
    let coef = c.ranges.coef in
    let fits_from : FitsSigned w128 c.from.result = search rules in
    let from : c.from.result ≡ c.args.coef = simp to_z-of_z at c.from.ensures in
    let few : unsigned_abs (c.args.n *ℤ c.args.coef) ≤ 2 ^ 78 = product_within c.args.n c.args.coef 48 30 c.requires.input c.requires.coef
    in
    simp to_z-of_z (rw from (fits_small _ (omega (arith, few))))

pub returns : goal.returns
returns c =
    let n = c.ranges.n in
    let coef = c.ranges.coef in
    let fits_from : FitsSigned w128 c.from.result = search rules in
    let from : c.from.result ≡ c.args.coef = simp to_z-of_z at c.from.ensures in
    let few : unsigned_abs (c.args.n *ℤ c.args.coef) ≤ 2 ^ 78 = product_within c.args.n c.args.coef 48 30 c.requires.input c.requires.coef
    in
    let fits : FitsSigned w128 (c.args.n *ℤ c.args.coef) = fits_small _ (omega (arith, few)) in
    simp to_z-of_z (rw from (simp to_z-of_z refl))
