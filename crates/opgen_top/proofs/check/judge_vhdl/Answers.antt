use Rattle.std.proofs.Common.{arith}
use Rattle.opgen_top.proofs.PreparingChecks.{vhdl_answers_check, rows_answer_check, rows_judged}
use Rattle.opgen_top.proofs.PreparingRuns.{vhdl_listed, rows_listed}
use Rattle.opgen_top.proofs.Refusing.{answer_passed}
use Rattle.opgen_top.proofs.check.judge_vhdl.Goals as goal

pub judge_rows-requires-clause-few : goal.judge_rows-requires-clause-few
judge_rows-requires-clause-few c =
    let held = c.in_ok-rows.ensures.rows in
    let few = held.reading.few in
    let count = held.count in
    omega (arith, few, count)

pub returns-in_err-design-clause-answer : goal.returns-in_err-design-clause-answer
returns-in_err-design-clause-answer c =
    let refusal = c.in_err-design.field-0.0 in
    answer_passed _ refusal _ c.from_residual.ensures.1
    (vhdl_answers_check c.args.spec.now c.args.latency c.args.vhdl.now c.args.vectors.now refusal c.in_err-design.ensures.refused)

pub returns-in_err-design-clause-listed : goal.returns-in_err-design-clause-listed
returns-in_err-design-clause-listed c =
    let refusal = c.in_err-design.field-0.0 in
    answer_passed _ refusal _ c.from_residual.ensures.1 (vhdl_listed c.args.vhdl.now refusal c.in_err-design.ensures.refused)

pub returns-in_err-rows-clause-answer : goal.returns-in_err-rows-clause-answer
returns-in_err-rows-clause-answer c =
    let refusal = c.in_err-rows.field-0.0 in
    answer_passed _ refusal _ c.from_residual-in_err-rows.ensures.1
    (rows_answer_check c.args.spec.now c.args.latency c.args.vhdl.now c.args.vectors.now
    c.in_ok-design.design c.in_ok-design.ensures.gives refusal c.in_err-rows.ensures.refused)

pub returns-in_err-rows-clause-listed : goal.returns-in_err-rows-clause-listed
returns-in_err-rows-clause-listed c =
    let refusal = c.in_err-rows.field-0.0 in
    answer_passed _ refusal _ c.from_residual-in_err-rows.ensures.1
    (rows_listed _ c.args.vectors.now refusal c.in_err-rows.ensures.refused)

pub returns-clause-answer : goal.returns-clause-answer
returns-clause-answer c =
    rows_judged c.args.spec.now c.args.latency c.args.vhdl.now c.args.vectors.now
    c.in_ok-design.design c.in_ok-design.ensures.gives c.in_ok-rows.rows _
    c.in_ok-rows.ensures.rows c.judge_rows.ensures.answer
