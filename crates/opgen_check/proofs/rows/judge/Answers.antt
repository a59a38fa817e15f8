use Rattle.std.proofs.Common.{map, sym, ◌∙◌, subst, arith}
use Rattle.opgen_num.specs.Words.{AreRowsOfCells}
use Rattle.opgen_design.specs.Run.{initial_words, input_widths}
use Rattle.opgen_operator.specs.Outputs.{outputs_of}
use Rattle.opgen_runs.specs.Rows.{IsRunOf}
use Rattle.opgen_vec.specs.Writing.{row_count}
use Rattle.opgen_check.specs.Verdict.{IsVerdict}
use Rattle.opgen_check.proofs.Judging.{outputs_fit}
use Rattle.opgen_check.proofs.Sides.{all_ports, in_columns, in_widths, out_widths}
use Rattle.opgen_check.proofs.rows.judge.Goals as goal

pub overflow_sub-columns : goal.overflow_sub-columns
overflow_sub-columns c =
    let spec = c.args.spec.now in
    let d = c.args.design in
    omega (arith, c.len.ensures, c.requires.columns, in_columns spec d c.requires.ports, all_ports spec d c.requires.ports)

pub run_rows-requires-clause-rows : goal.run_rows-requires-clause-rows
run_rows-requires-clause-rows c =
    let d = c.args.design in
    let cells = c.args.inputs.now.cells.items in
    let all = row_count c.args.inputs.now.columns cells in
    let lent = subst (AreRowsOfCells (input_widths d) all) (sym c.deref.ensures.value) c.requires.rows in
    subst (λ n. AreRowsOfCells (input_widths d) n c.deref.result.now) (sym c.row_count-rows.ensures) lent

pub judge_rows-requires-clause-in_columns : goal.judge_rows-requires-clause-in_columns
judge_rows-requires-clause-in_columns c = c.requires.columns ∙ in_columns c.args.spec.now c.args.design c.requires.ports

pub judge_rows-requires-clause-inputs : goal.judge_rows-requires-clause-inputs
judge_rows-requires-clause-inputs c =
    let cells = c.args.inputs.now.cells.items in
    subst (λ ws. AreRowsOfCells ws (row_count c.args.inputs.now.columns cells) cells) (in_widths c.args.spec.now c.args.design c.requires.ports)
    c.requires.rows

pub judge_rows-requires-clause-columns : goal.judge_rows-requires-clause-columns
judge_rows-requires-clause-columns c =
    let spec = c.args.spec.now in
    let d = c.args.design in
    omega (arith, c.len.ensures, c.requires.columns, in_columns spec d c.requires.ports, all_ports spec d c.requires.ports)

pub judge_rows-requires-clause-outputs : goal.judge_rows-requires-clause-outputs
judge_rows-requires-clause-outputs c =
    let d = c.args.design in
    let all = row_count c.args.inputs.now.columns c.args.inputs.now.cells.items in
    let outputs = c.in_ok-outputs.outputs.items in
    let fit = outputs_fit d (initial_words d.signals) c.row_count-rows.result c.deref.result.now outputs c.in_ok-outputs.ensures.run in
    let widths = out_widths c.args.spec.now d c.requires.ports in
    let outs = map (λ p. p.format.width) (outputs_of c.args.spec.now) in
    subst (AreRowsOfCells outs all) (sym c.deref-2.ensures.value)
    (subst (λ n. AreRowsOfCells outs n outputs) c.row_count-rows.ensures
    (subst (λ ws. AreRowsOfCells ws c.row_count-rows.result outputs) widths fit))

pub returns-clause-checked : goal.returns-clause-checked
returns-clause-checked c =
    let d = c.args.design in
    let spec = c.args.spec.now in
    let cells = c.args.inputs.now.cells.items in
    let outputs = c.in_ok-outputs.outputs.items in
    let all = row_count c.args.inputs.now.columns cells in
    let lent = subst (λ xs. IsRunOf d c.row_count-rows.result xs outputs) c.deref.ensures.value c.in_ok-outputs.ensures.run in
    record {
      outputs = outputs;
      run = subst (λ n. IsRunOf d n cells outputs) c.row_count-rows.ensures lent;
      verdict = subst (λ xs. IsVerdict spec c.args.latency all cells xs c.judge_rows.result) c.deref-2.ensures.value c.judge_rows.ensures;
    }

pub returns-clause-numbers : goal.returns-clause-numbers
returns-clause-numbers c = c.in_ok-outputs.ensures.numbers
