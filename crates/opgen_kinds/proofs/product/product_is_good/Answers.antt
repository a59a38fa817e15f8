use Rattle.std.proofs.Common.{◌≡◌, FitsSigned, ap, rules}
use Rattle.std.specs.Int.{w128}
use Rattle.std.proofs.lemmas.Int.{to_z-of_z}
use Rattle.opgen_num.specs.declared.format.Ratio.{Ratio}
use Rattle.opgen_kinds.specs.Product.{exact_product, product_places}
use Rattle.opgen_ports.proofs.Roundings.{good-along}
use Rattle.opgen_ports.proofs.Magnitudes.{number_fits}
use Rattle.opgen_ports.proofs.Widths.{some_width}
use Rattle.opgen_kinds.proofs.product.product_is_good.Goals as goal

pub output-y-requires-clause-least : goal.output-y-requires-clause-least
output-y-requires-clause-least c = rw c.product_format.ensures (some_width (product_places c.args.product.now))

pub output-y-requires-clause-most : goal.output-y-requires-clause-most
output-y-requires-clause-most c = rw c.product_format.ensures c.requires.narrow

pub output-y-requires-clause-bits : goal.output-y-requires-clause-bits
output-y-requires-clause-bits c = rw c.product_format.ensures c.requires.y

pub good_linear-requires : goal.good_linear-requires
good_linear-requires c =
    let fits_den : FitsSigned w128 c.exact_product-value.result.den = search rules in
    simp to_z-of_z c.exact_product-value.ensures.positive

pub returns : goal.returns
returns c =
    let fits_num : FitsSigned w128 c.exact_product-value.result.num = search rules in
    let fits_den : FitsSigned w128 c.exact_product-value.result.den = search rules in
    let fits_output : FitsSigned w128 c.output-y.result = search rules in
    let p = c.args.product.now in
    let fits_a : FitsSigned w128 c.args.a = number_fits p.a _ c.requires.product.a c.requires.a in
    let fits_b : FitsSigned w128 c.args.b = number_fits p.b _ c.requires.product.b c.requires.b in
    let value : c.exact_product-value.result ≡ exact_product p c.args.a c.args.b = simp to_z-of_z at c.exact_product-value.ensures.value in
    let out = rw c.product_format.ensures at c.output-y.ensures in
    good-along c.good_linear.result c.args.mode c.exact_product-value.result.num _ c.exact_product-value.result.den _ c.output-y.result _
    (ap (λ (v : Ratio). v.num) value) (ap (λ (v : Ratio). v.den) value) out (simp to_z-of_z at c.good_linear.ensures)
