use Rattle.opgen_top.proofs.PreparingRuns.{vhdl_answers, vhdl_listed, rows_answer, rows_listed, run_answers, run_listed}
use Rattle.opgen_top.proofs.Refusing.{answer_passed}
use Rattle.opgen_top.proofs.SomePort.{some_port}
use Rattle.opgen_top.proofs.simulate.run_vhdl.Goals as goal

pub store_run-requires-clause-some_port : goal.store_run-requires-clause-some_port
store_run-requires-clause-some_port c = some_port c.args.vhdl.now c.in_ok-design.design c.in_ok-design.ensures.gives.spelled

pub returns-in_err-design-clause-answer : goal.returns-in_err-design-clause-answer
returns-in_err-design-clause-answer c =
    let refusal = c.in_err-design.field-0.0 in
    answer_passed _ refusal _ c.from_residual.ensures.1
    (vhdl_answers c.args.out.now c.args.vhdl.now c.args.vectors.now refusal c.in_err-design.ensures.refused)

pub returns-in_err-design-clause-listed : goal.returns-in_err-design-clause-listed
returns-in_err-design-clause-listed c =
    let refusal = c.in_err-design.field-0.0 in
    answer_passed _ refusal _ c.from_residual.ensures.1 (vhdl_listed c.args.vhdl.now refusal c.in_err-design.ensures.refused)

pub returns-in_err-rows-clause-answer : goal.returns-in_err-rows-clause-answer
returns-in_err-rows-clause-answer c =
    let refusal = c.in_err-rows.field-0.0 in
    answer_passed _ refusal _ c.from_residual-in_err-rows.ensures.1
    (rows_answer c.args.out.now c.args.vhdl.now c.args.vectors.now c.in_ok-design.design refusal c.in_ok-design.ensures.gives
    c.in_err-rows.ensures.refused)

pub returns-in_err-rows-clause-listed : goal.returns-in_err-rows-clause-listed
returns-in_err-rows-clause-listed c =
    let refusal = c.in_err-rows.field-0.0 in
    answer_passed _ refusal _ c.from_residual-in_err-rows.ensures.1
    (rows_listed _ c.args.vectors.now refusal c.in_err-rows.ensures.refused)

pub returns-clause-answer : goal.returns-clause-answer
returns-clause-answer c =
    run_answers c.args.out.now c.args.vhdl.now c.args.vectors.now _ c.in_ok-design.design c.in_ok-rows.rows c.in_ok-design.ensures.gives
    c.in_ok-rows.ensures.rows c.in_ok-store_run.ensures

pub returns-clause-listed : goal.returns-clause-listed
returns-clause-listed c = run_listed c.args.out.now _ _ _ _ c.in_ok-store_run.ensures
