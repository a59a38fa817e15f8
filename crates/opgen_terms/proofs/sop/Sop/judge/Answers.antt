use Rattle.std.proofs.Common.{◌≡◌, FitsSigned, ap, rules}
use Rattle.std.specs.Int.{w128}
use Rattle.std.proofs.lemmas.Int.{to_z-of_z}
use Rattle.opgen_num.specs.declared.format.Ratio.{Ratio}
use Rattle.opgen_terms.specs.Sop.{exact_sop, last_numbers}
use Rattle.opgen_ports.proofs.Roundings.{good-along}
use Rattle.opgen_terms.proofs.sop.Sop.judge.Goals as goal

pub returns : goal.returns
returns c =
    let s = c.args.self.now in
    let fits_num : FitsSigned w128 c.value-value.result.num = search rules in
    let fits_den : FitsSigned w128 c.value-value.result.den = search rules in
    let fits_output : FitsSigned w128 c.output-y.result = search rules in
    let value : c.value-value.result ≡ exact_sop s (last_numbers s c.args.history.now) = c.value-value.ensures.value in
    let out = rw c.output.ensures.value at c.output-y.ensures in record {
      in_range = λ _. good-along c.good_linear.result c.args.mode c.value-value.result.num _ c.value-value.result.den _ c.output-y.result _
          (ap (λ (v : Ratio). v.num) value) (ap (λ (v : Ratio). v.den) value) out (simp to_z-of_z at c.good_linear.ensures);
      out_of_range = λ out. absurd (out tt);
    }
