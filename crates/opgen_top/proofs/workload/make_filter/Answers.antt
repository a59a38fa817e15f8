use Rattle.std.proofs.Common.{false}
use Rattle.opgen_top.proofs.Planning.{circuit_ports, circuit_sound}
use Rattle.opgen_top.proofs.Refusing.{answer_passed, answers-map}
use Rattle.opgen_top.proofs.Working.{spec_refused, spec_worked, worked_listed}
use Rattle.opgen_top.proofs.workload.make_filter.Goals as goal

pub run_filter-requires-clause-sound : goal.run_filter-requires-clause-sound
run_filter-requires-clause-sound g c = let is = c.in_ok-circuit.ensures.circuit in
    circuit_sound c.args.spec.now c.requires.valid is.table false c.in_ok-circuit.circuit.planned _ is.of_table

pub run_filter-requires-clause-ports : goal.run_filter-requires-clause-ports
run_filter-requires-clause-ports g c = let is = c.in_ok-circuit.ensures.circuit in
    circuit_ports c.args.spec.now c.requires.valid is.table false c.in_ok-circuit.circuit.planned _ is.of_table

pub returns-in_err-circuit-clause-answer : goal.returns-in_err-circuit-clause-answer
returns-in_err-circuit-clause-answer g c =
    let refusal = c.in_err-circuit.field-0.0 in
    answer_passed _ refusal _ c.from_residual.ensures.1
    (spec_refused c.args.n _ c.args.spec.now c.requires.filter refusal c.in_err-circuit.ensures.refused)

pub returns-in_err-circuit-clause-listed : goal.returns-in_err-circuit-clause-listed
returns-in_err-circuit-clause-listed g c =
    answer_passed _ c.in_err-circuit.field-0.0 _ c.from_residual.ensures.1 c.in_err-circuit.ensures.listed

pub returns-clause-answer : goal.returns-clause-answer
returns-clause-answer g c =
    answers-map c.run_filter.result _ _
    (λ a h. spec_worked c.args.n _ c.args.spec.now c.requires.filter c.in_ok-circuit.circuit c.in_ok-circuit.ensures.circuit a h)
    c.run_filter.ensures

pub returns-clause-listed : goal.returns-clause-listed
returns-clause-listed g c =
    answers-map c.run_filter.result _ _ (λ a h. worked_listed c.args.n c.in_ok-circuit.circuit.planned a h) c.run_filter.ensures
