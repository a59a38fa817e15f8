use Rattle.opgen_top.proofs.PreparingChecks.{fault_answers, spec_answers}
use Rattle.opgen_top.proofs.Refusing.{answer_passed}
use Rattle.opgen_top.proofs.check.judge_document.Goals as goal

pub returns-in_err-spec-clause-answer : goal.returns-in_err-spec-clause-answer
returns-in_err-spec-clause-answer c =
    let refusal = c.in_err-spec.field-0.0 in
    answer_passed _ refusal _ c.from_residual.ensures.1
    (fault_answers c.args.latency c.args.document.now c.args.vhdl.now c.args.vectors.now refusal c.in_err-spec.ensures.refused)

pub returns-in_err-spec-clause-listed : goal.returns-in_err-spec-clause-listed
returns-in_err-spec-clause-listed c =
    answer_passed _ c.in_err-spec.field-0.0 _ c.from_residual.ensures.1 c.in_err-spec.ensures.listed

pub returns-clause-answer : goal.returns-clause-answer
returns-clause-answer c =
    spec_answers c.args.latency c.args.document.now c.args.vhdl.now c.args.vectors.now c.in_ok-spec.spec c.in_ok-spec.ensures.reads
    c.judge_vhdl.result c.judge_vhdl.ensures.answer
