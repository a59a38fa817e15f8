use Rattle.std.proofs.Common.{◌≡◌, ◌↔◌, FitsSigned, Some, sym, subst, ◌∙◌, rules}
use Rattle.std.specs.Int.{w128}
use Rattle.std.specs.Prelude.{IsTrue}
use Rattle.std.proofs.lemmas.Int.{to_z-of_z}
use Rattle.opgen_num.specs.declared.mode.Overflow.TheVariants.{Saturate, Wrap}
use Rattle.opgen_operator.specs.Operator.{exact_value, operator_outputs}
use Rattle.opgen_operator.specs.Outputs.{mode_of, inputs_of}
use Rattle.opgen_operator.proofs.Valued.{cut-along}
use Rattle.opgen_ports.specs.Good.{IsGoodSaturated, IsGoodWrapped}
use Rattle.opgen_ports.specs.Ports.{format_at, recent_numbers}
use Rattle.opgen_operator.proofs.spec.Spec.is_good_cut.Goals as goal

pub returns-in-Saturate : goal.returns-in-Saturate
returns-in-Saturate c =
    let spec = c.args.self.now in
    let value = c.in-Some.value in
    let is : exact_value spec.op (recent_numbers (inputs_of spec) c.args.history.now) ≡ Some value = sym c.value.ensures.value ∙ c.in-Some.is in
    let fits_num : FitsSigned w128 value.num = search rules in
    let fits_den : FitsSigned w128 value.den = search rules in
    let fits_y : FitsSigned w128 c.output-y.result = search rules in
    let good : IsTrue c.good_saturated.result ↔ IsGoodSaturated (mode_of spec) c.args.cut.to value.num value.den c.output-y.result =
    rw c.mode.ensures at simp to_z-of_z at c.good_saturated.ensures in
    cut-along c.good_saturated.result Saturate spec.overflow (mode_of spec) (format_at (operator_outputs spec.op) 0) c.args.cut.to value _ _ _
    (sym c.in-Saturate.is) (sym is) c.output-y.ensures good

pub returns-in-Wrap : goal.returns-in-Wrap
returns-in-Wrap c =
    let spec = c.args.self.now in
    let value = c.in-Some.value in
    let own = format_at (operator_outputs spec.op) 0 in
    let is : exact_value spec.op (recent_numbers (inputs_of spec) c.args.history.now) ≡ Some value = sym c.value.ensures.value ∙ c.in-Some.is in
    let fits_num : FitsSigned w128 value.num = search rules in
    let fits_den : FitsSigned w128 value.den = search rules in
    let fits_y : FitsSigned w128 c.output-y.result = search rules in
    let judged : IsTrue c.good_wrapped.result ↔ IsGoodWrapped (mode_of spec) c.args.cut.from c.args.cut.to value.num value.den c.output-y.result =
    rw c.mode-in-Wrap.ensures at simp to_z-of_z at c.good_wrapped.ensures in
    let good : IsTrue c.good_wrapped.result ↔ IsGoodWrapped (mode_of spec) own c.args.cut.to value.num value.den c.output-y.result =
    subst (λ own. IsTrue c.good_wrapped.result ↔ IsGoodWrapped (mode_of spec) own c.args.cut.to value.num value.den c.output-y.result)
    c.requires.from judged in
    cut-along c.good_wrapped.result Wrap spec.overflow (mode_of spec) own c.args.cut.to value _ _ _ (sym c.in-Wrap.is) (sym is) c.output-y.ensures good
