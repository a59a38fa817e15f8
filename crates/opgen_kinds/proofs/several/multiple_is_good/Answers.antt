use Rattle.std.proofs.Common.{◌≡◌, FitsSigned, rules, arith, refl}
use Rattle.std.specs.Prelude.{pos}
use Rattle.std.specs.Int.{w64, w128}
use Rattle.std.proofs.lemmas.Int.{ints, to_z-of_z}
use Rattle.opgen_kinds.specs.Several.{constant_format}
use Rattle.opgen_ports.proofs.Magnitudes.{fits_small}
use Rattle.opgen_kinds.proofs.of_kind.Several.{multiple_width}
use Rattle.opgen_ports.proofs.Roundings.{good-along}
use Rattle.opgen_kinds.proofs.several.multiple_is_good.Goals as goal

pub output-y-requires-clause-most : goal.output-y-requires-clause-most
output-y-requires-clause-most c =
    let fits_constant : FitsSigned w64 c.args.constant = omega (arith, ints, c.requires.constant) in
    let format : c.constant_format.result ≡ constant_format c.args.input c.args.constant = simp to_z-of_z at c.constant_format.ensures in
    rw format (omega (arith, multiple_width c.args.input c.args.constant c.requires.constant, c.requires.input.most))

pub returns : goal.returns
returns c =
    let fits_constant : FitsSigned w64 c.args.constant = omega (arith, ints, c.requires.constant) in
    let fits_x : FitsSigned w128 c.args.x = fits_small _ (omega (arith, c.requires.x)) in
    let fits_product : FitsSigned w128 c.product.result = search rules in
    let fits_output : FitsSigned w128 c.output-y.result = search rules in
    let format : c.constant_format.result ≡ constant_format c.args.input c.args.constant = simp to_z-of_z at c.constant_format.ensures in
    let num = simp to_z-of_z at c.product.ensures in
    let out = rw format at c.output-y.ensures in
    good-along c.good_linear.result c.args.mode c.product.result _ (pos 1) (pos 1) c.output-y.result _ num refl out
    (simp to_z-of_z at c.good_linear.ensures)
