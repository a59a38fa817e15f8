use Rattle.std.proofs.Common.{FitsSigned, rules, ap}
use Rattle.std.specs.Int.{w128}
use Rattle.std.proofs.lemmas.Int.{to_z-of_z}
use Rattle.opgen_num.specs.declared.format.Ratio.{Ratio}
use Rattle.opgen_kinds.specs.Sum.{sum_places}
use Rattle.opgen_ports.proofs.Roundings.{good-along}
use Rattle.opgen_ports.proofs.Widths.{some_width}
use Rattle.opgen_kinds.proofs.sum.sum_is_good.Goals as goal

pub output-requires-clause-least : goal.output-requires-clause-least
output-requires-clause-least c = rw c.sum_format.ensures (some_width (sum_places c.args.sum.now))

pub output-requires-clause-most : goal.output-requires-clause-most
output-requires-clause-most c = rw c.sum_format.ensures c.requires.narrow

pub output-requires-clause-bits : goal.output-requires-clause-bits
output-requires-clause-bits c = rw c.sum_format.ensures c.requires.y

pub returns : goal.returns
returns c =
    let fits_num : FitsSigned w128 c.exact_sum-value.result.num = search rules in
    let fits_den : FitsSigned w128 c.exact_sum-value.result.den = search rules in
    let fits_output : FitsSigned w128 c.output.result = search rules in
    let num = ap (λ (r : Ratio). r.num) c.exact_sum-value.ensures.value in
    let den = ap (λ (r : Ratio). r.den) c.exact_sum-value.ensures.value in
    let out = rw c.sum_format.ensures at c.output.ensures in
    good-along c.good_linear.result c.args.mode c.exact_sum-value.result.num _ c.exact_sum-value.result.den _ c.output.result _ num den out
    (simp to_z-of_z at c.good_linear.ensures)
