use Rattle.std.proofs.Common.{FitsSigned, rules, ap}
use Rattle.std.specs.Int.{w128}
use Rattle.std.proofs.lemmas.Int.{to_z-of_z}
use Rattle.opgen_num.specs.declared.format.Ratio.{Ratio}
use Rattle.opgen_ports.proofs.Cycles.{only_word}
use Rattle.opgen_ports.proofs.Roundings.{good-along}
use Rattle.opgen_kinds.proofs.taps.Taps.judge.Goals as goal

pub bounds-outputs-0 : goal.bounds-outputs-0
bounds-outputs-0 c = (only_word _ c.args.outputs.now c.requires.outputs).0

pub returns : goal.returns
returns c =
    let fits_num : FitsSigned w128 c.value-value.result.num = search rules in
    let fits_den : FitsSigned w128 c.value-value.result.den = search rules in
    let fits_output : FitsSigned w128 c.output-2.result = search rules in
    let num = ap (λ (r : Ratio). r.num) c.value-value.ensures.value in
    let den = ap (λ (r : Ratio). r.den) c.value-value.ensures.value in
    let out = rw c.output.ensures.value at c.output-2.ensures in
    let good = good-along c.good_linear.result c.args.mode c.value-value.result.num _ c.value-value.result.den _ c.output-2.result _ num den out
    (simp to_z-of_z at c.good_linear.ensures) in
    record { in_range = λ _. good; out_of_range = λ out. absurd (out tt) }
