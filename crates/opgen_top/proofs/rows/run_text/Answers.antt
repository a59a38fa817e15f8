use Rattle.std.proofs.Common.{◌≡◌, ◌*◌, length, refl, sym, subst, ap, ◌∙◌, arith}
use Rattle.opgen_num.specs.Words.{AreRowsOfCells}
use Rattle.opgen_num.proofs.RowsOfCells.{length-rows_of_cells}
use Rattle.opgen_design.specs.Run.{input_widths, output_widths, is_in, is_out}
use Rattle.opgen_runs.specs.Rows.{IsRunOf}
use Rattle.opgen_sim.proofs.PortWidths.{widths_on, sides, few_outputs}
use Rattle.opgen_top.proofs.Columns.{whole_rows, same_rows}
use Rattle.opgen_top.proofs.RunRows.{length-run, run_written}
use Rattle.opgen_top.proofs.rows.run_text.Goals as goal

pub run_rows-requires-clause-rows : goal.run_rows-requires-clause-rows
run_rows-requires-clause-rows c =
    let d = c.args.design in
    let rows = c.args.rows.now in
    subst (AreRowsOfCells (input_widths d) rows.count) (sym c.deref.ensures.value) c.requires.rows

pub overflow_cast-outputs : goal.overflow_cast-outputs
overflow_cast-outputs c =
    let widths = c.in_ok-out_widths.ensures ∙ ap (widths_on is_out) c.as_slice-2.ensures in
    omega (arith, c.len.ensures, c.in_ok-out_widths.out_widths.ok.0, ap length widths, few_outputs c.args.design c.in_ok-cells.ensures.numbers)

pub invariant_of-outputs : goal.invariant_of-outputs
invariant_of-outputs c =
    let d = c.args.design in
    let rows = c.args.rows.now in
    let run = subst (λ xs. IsRunOf d rows.count xs c.in_ok-cells.cells.items) c.deref.ensures.value c.in_ok-cells.ensures.run in
    let widths = c.in_ok-out_widths.ensures ∙ ap (widths_on is_out) c.as_slice-2.ensures in
    let columns : length (output_widths d) ≡ c.len.result =
    omega (arith, c.len.ensures, c.in_ok-out_widths.out_widths.ok.0, ap length widths) in
    let cells = c.in_ok-cells.cells.items in
    record {
      whole = whole_rows c.len.result rows.count cells
          (length-run d rows.count rows.inputs.cells.items cells run ∙ ap (λ n. rows.count * n) columns);
    }

pub write_rows-requires-clause-some : goal.write_rows-requires-clause-some
write_rows-requires-clause-some c =
    let ins = c.deref-2.ensures.value ∙ c.in_ok-in_widths.ensures ∙ ap (widths_on is_in) c.as_slice.ensures in
    let outs = c.deref-3.ensures.value ∙ c.in_ok-out_widths.ensures ∙ ap (widths_on is_out) c.as_slice-2.ensures in
    omega (arith, ap length ins, ap length outs, sides c.args.design, c.requires.some_port)

pub write_rows-requires-clause-same_rows : goal.write_rows-requires-clause-same_rows
write_rows-requires-clause-same_rows c =
    let d = c.args.design in
    let rows = c.args.rows.now in
    let run = subst (λ xs. IsRunOf d rows.count xs c.in_ok-cells.cells.items) c.deref.ensures.value c.in_ok-cells.ensures.run in
    let cells = c.in_ok-cells.cells.items in
    let ins = c.deref-2.ensures.value ∙ c.in_ok-in_widths.ensures ∙ ap (widths_on is_in) c.as_slice.ensures in
    let outs = c.deref-3.ensures.value ∙ c.in_ok-out_widths.ensures ∙ ap (widths_on is_out) c.as_slice-2.ensures in
    rw (ins, outs) (same_rows (length (input_widths d)) (length (output_widths d)) rows.count rows.inputs.cells.items cells
    (length-rows_of_cells (input_widths d) rows.inputs.cells.items rows.count c.requires.rows)
    (length-run d rows.count rows.inputs.cells.items cells run))

pub returns : goal.returns
returns c =
    let d = c.args.design in
    let rows = c.args.rows.now in
    let run = subst (λ xs. IsRunOf d rows.count xs c.in_ok-cells.cells.items) c.deref.ensures.value c.in_ok-cells.ensures.run in
    let ins = c.deref-2.ensures.value ∙ c.in_ok-in_widths.ensures ∙ ap (widths_on is_in) c.as_slice.ensures in
    let outs = c.deref-3.ensures.value ∙ c.in_ok-out_widths.ensures ∙ ap (widths_on is_out) c.as_slice-2.ensures in
    run_written d rows.count rows.inputs.cells.items c.in_ok-cells.cells.items c.in_ok-write_rows.field-0.items c.deref-2.result.now c.deref-3.result.now c.in_ok-cells.cells.items
    ins outs refl c.requires.some_port c.requires.rows run c.in_ok-write_rows.ensures
