use Rattle.std.proofs.Common.{false}
use Rattle.opgen_top.specs.Specified.{IsVectors}
use Rattle.opgen_top.proofs.Planning.{circuit_ports, circuit_sound}
use Rattle.opgen_top.proofs.PreparingSpecs.{circuit_refused, rows_of_listed, vectors_made}
use Rattle.opgen_top.proofs.Refusing.{answer_passed, answers-map}
use Rattle.opgen_top.proofs.vectors.run_circuit.Goals as goal

pub run_stimulus-requires-clause-sound : goal.run_stimulus-requires-clause-sound
run_stimulus-requires-clause-sound g c = let is = c.in_ok-circuit.ensures.circuit in
    circuit_sound c.args.spec.now c.requires is.table false c.in_ok-circuit.circuit.planned _ is.of_table

pub run_stimulus-requires-clause-ports : goal.run_stimulus-requires-clause-ports
run_stimulus-requires-clause-ports g c = let is = c.in_ok-circuit.ensures.circuit in
    circuit_ports c.args.spec.now c.requires is.table false c.in_ok-circuit.circuit.planned _ is.of_table

pub returns-in_err-circuit-clause-answer : goal.returns-in_err-circuit-clause-answer
returns-in_err-circuit-clause-answer g c =
    let refusal = c.in_err-circuit.field-0.0 in
    answer_passed _ refusal _ c.from_residual.ensures.1
    (circuit_refused _ c.args.spec.now (IsVectors c.args.seed c.args.cycles c.args.spec.now) refusal c.in_err-circuit.ensures.refused)

pub returns-in_err-circuit-clause-listed : goal.returns-in_err-circuit-clause-listed
returns-in_err-circuit-clause-listed g c =
    answer_passed _ c.in_err-circuit.field-0.0 _ c.from_residual.ensures.1 c.in_err-circuit.ensures.listed

pub returns-clause-answer : goal.returns-clause-answer
returns-clause-answer g c =
    vectors_made _ c.args.spec.now c.in_ok-circuit.circuit c.in_ok-circuit.ensures.circuit c.run_stimulus.result c.args.seed c.args.cycles
    c.run_stimulus.ensures

pub returns-clause-listed : goal.returns-clause-listed
returns-clause-listed g c =
    answers-map c.run_stimulus.result _ _ (λ a h. rows_of_listed a c.args.spec.now _ c.args.seed c.args.cycles c.requires.name h)
    c.run_stimulus.ensures
