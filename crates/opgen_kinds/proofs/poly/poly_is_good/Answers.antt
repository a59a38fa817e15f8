use Rattle.std.proofs.Common.{◌≡◌, FitsSigned, ap, rules}
use Rattle.std.specs.Int.{w128}
use Rattle.std.proofs.lemmas.Int.{to_z-of_z}
use Rattle.opgen_num.specs.declared.format.Ratio.{Ratio}
use Rattle.opgen_kinds.specs.Poly.{exact_poly}
use Rattle.opgen_ports.proofs.Roundings.{good-along}
use Rattle.opgen_kinds.proofs.poly.poly_is_good.Goals as goal

pub output-y-requires-clause-bits : goal.output-y-requires-clause-bits
output-y-requires-clause-bits c = rw c.output.ensures.value c.requires.y

pub good_linear-requires : goal.good_linear-requires
good_linear-requires c =
    let fits_den : FitsSigned w128 c.exact_poly-value.result.den = search rules in
    simp to_z-of_z c.exact_poly-value.ensures.positive

pub returns : goal.returns
returns c =
    let fits_num : FitsSigned w128 c.exact_poly-value.result.num = search rules in
    let fits_den : FitsSigned w128 c.exact_poly-value.result.den = search rules in
    let fits_output : FitsSigned w128 c.output-y.result = search rules in
    let fits_x = c.ranges.x in
    let value : c.exact_poly-value.result ≡ exact_poly c.args.poly.now c.args.x = simp to_z-of_z at c.exact_poly-value.ensures.value in
    let out = rw c.output.ensures.value at c.output-y.ensures in
    good-along c.good_linear.result c.args.mode c.exact_poly-value.result.num _ c.exact_poly-value.result.den _ c.output-y.result _
    (ap (λ (v : Ratio). v.num) value) (ap (λ (v : Ratio). v.den) value) out (simp to_z-of_z at c.good_linear.ensures)
