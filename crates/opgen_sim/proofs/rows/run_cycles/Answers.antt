use Rattle.std.proofs.Common.{◌++◌, length, take, drop, sym, subst, ap, ◌∙◌, arith}
use Rattle.opgen_design.specs.Run.{input_widths}
use Rattle.opgen_num.specs.Words.{FitWidths}
use Rattle.opgen_num.proofs.RowsOfCells.{row_room, first_fits, later_rows}
use Rattle.opgen_runs.proofs.Rows.{written_back}
use Rattle.opgen_sim.proofs.RunRows.{run_start, one_step, whole_run, length-step}
use Rattle.opgen_sim.proofs.rows.run_cycles.Goals as goal

pub rows-init : goal.rows-init
rows-init c =
    let new = c.in_ok-sim.ensures.new in
    rw c.new-results.ensures.items record {
      same = new.design;
      fit = c.requires.rows;
      room = omega (arith, c.in_ok-outputs.ensures.len, c.in_ok-outputs.outputs.ok.0, ap length c.requires.widths.outputs, c.args.widths.now.outputs.ok.0);
      columns = omega (arith, ap length c.requires.widths.inputs, c.args.widths.now.inputs.ok.0);
      run = run_start c.args.design c.in_ok-sim.sim c.args.rows c.args.cells.now new;
    }

pub split_at-requires : goal.split_at-requires
split_at-requires c =
    omega (
      arith,
      c.rows.invariant.columns,
      row_room (input_widths c.args.design) c.rows.inputs.now c.rows.left c.rows-test.true c.rows.invariant.fit,
    )

pub step-requires-clause-inputs : goal.step-requires-clause-inputs
step-requires-clause-inputs c =
    let d = c.args.design in
    let now = c.rows.invariant in
    let first = c.split_at.ensures.front ∙ ap (λ n. take n c.rows.inputs.now) now.columns in
    let fits = first_fits (input_widths d) c.rows.inputs.now c.rows.left c.rows-test.true now.fit in
    let same = subst (λ x. FitWidths (input_widths x) (take (length (input_widths d)) c.rows.inputs.now)) (sym now.same) fits in
    subst (FitWidths (input_widths c.rows.sim.design)) (sym first) same

pub rows-preserved : goal.rows-preserved
rows-preserved c =
    let d = c.args.design in
    let e = c.rows.sim.design in
    let now = c.rows.invariant in
    let numbers = c.step.new.outputs in
    let row = c.split_at.result.0.now in
    let wide = length-step d e c.rows.sim.registers c.step.new.self.registers row numbers now.same c.step.ensures.step in
    let back = written_back c.rows.outputs.len numbers c.rows.outputs.items (omega (arith, c.rows.outputs.ok.0))
    (omega (arith, wide, now.room)) in
    let first = c.split_at.ensures.front ∙ ap (λ n. take n c.rows.inputs.now) now.columns in
    let later = c.split_at.ensures.back ∙ ap (λ n. drop n c.rows.inputs.now) now.columns in
    let put = c.in_ok-extend_from_slice.ensures.items ∙ ap (λ xs. c.rows.results.items ++ xs) (c.deref.ensures.value ∙ back) in
    rw later record {
      same = c.step.ensures.design ∙ now.same;
      fit = later_rows (input_widths d) c.rows.inputs.now c.rows.left c.rows-test.true now.fit;
      room = ap length back ∙ wide;
      columns = now.columns;
      run = one_step d e c.args.rows c.args.cells.now c.rows.sim.registers c.step.new.self.registers c.rows.left c.rows.inputs.now c.rows.results.items row numbers
          c.extend_from_slice.new.self.items now.run c.rows-test.true now.same first c.step.ensures.step put;
    }

pub returns-clause-run : goal.returns-clause-run
returns-clause-run c =
    whole_run c.args.design c.args.rows c.args.cells.now c.rows.sim.registers c.rows.left c.rows.inputs.now c.rows.results.items c.rows.invariant.run (omega (arith, c.rows-test.false))
