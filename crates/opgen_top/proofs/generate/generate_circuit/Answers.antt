use Rattle.opgen_top.specs.Specified.{IsGenerated}
use Rattle.opgen_top.proofs.PreparingSpecs.{circuit_refused, generated, wrote_listed}
use Rattle.opgen_top.proofs.Refusing.{answer_passed, answers-map}
use Rattle.opgen_top.proofs.generate.generate_circuit.Goals as goal

pub returns-in_err-circuit-clause-answer : goal.returns-in_err-circuit-clause-answer
returns-in_err-circuit-clause-answer g c =
    let refusal = c.in_err-circuit.field-0.0 in
    answer_passed _ refusal _ c.from_residual.ensures.1
    (circuit_refused _ c.args.spec.now (IsGenerated c.args.enable c.args.spec.now) refusal c.in_err-circuit.ensures.refused)

pub returns-in_err-circuit-clause-listed : goal.returns-in_err-circuit-clause-listed
returns-in_err-circuit-clause-listed g c =
    answer_passed _ c.in_err-circuit.field-0.0 _ c.from_residual.ensures.1 c.in_err-circuit.ensures.listed

pub returns-clause-answer : goal.returns-clause-answer
returns-clause-answer g c =
    generated _ c.args.spec.now c.args.enable c.in_ok-circuit.circuit c.in_ok-circuit.ensures.circuit c.make_files.result c.make_files.ensures

pub returns-clause-listed : goal.returns-clause-listed
returns-clause-listed g c =
    answers-map c.make_files.result _ _ (λ a e. wrote_listed a c.args.spec.now _ _ c.requires.valid.name e) c.make_files.ensures
