use Rattle.opgen_top.specs.Specified.{IsVectors}
use Rattle.opgen_top.proofs.PreparingSpecs.{bytes_refused, read_answers, refused_answers}
use Rattle.opgen_top.proofs.Refusing.{answer_passed}
use Rattle.opgen_top.proofs.vectors.run_document.Goals as goal

pub returns-in_err-spec-clause-answer : goal.returns-in_err-spec-clause-answer
returns-in_err-spec-clause-answer g c =
    let refusal = c.in_err-spec.field-0.0 in
    answer_passed _ refusal _ c.from_residual.ensures.1
    (refused_answers c.args.document.now _ (IsVectors c.args.seed c.args.cycles) refusal
    (bytes_refused c.args.document.now _ refusal c.in_err-spec.ensures.refused))

pub returns-in_err-spec-clause-listed : goal.returns-in_err-spec-clause-listed
returns-in_err-spec-clause-listed g c =
    answer_passed _ c.in_err-spec.field-0.0 _ c.from_residual.ensures.1 c.in_err-spec.ensures.listed

pub returns-clause-answer : goal.returns-clause-answer
returns-clause-answer g c =
    read_answers _ c.in_ok-spec.spec c.args.document.now (IsVectors c.args.seed c.args.cycles) c.in_ok-spec.ensures.reads c.run_circuit.result
    c.run_circuit.ensures.answer
