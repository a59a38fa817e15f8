use Rattle.std.proofs.Common.{◌≡◌, ◌*◌, ◌++◌, length}
use Rattle.opgen_vec.specs.Writing.{rows_text, row_count_of}
use Rattle.opgen_vec.proofs.write.write_rows.Given as goal

abbrev pub invariant-rows : goal.invariant-rows
invariant-rows l = record {
  text : rows_text l.in_widths l.out_widths (row_count_of (length l.in_widths) (length l.out_widths) l.fn.inputs.cells.items
      l.fn.outputs.cells.items) l.fn.inputs.cells.items l.fn.outputs.cells.items
      ≡ l.text.items ++ rows_text l.in_widths l.out_widths l.left l.inputs l.outputs;
  inputs : length l.inputs ≡ length l.in_widths * l.left;
  outputs : length l.outputs ≡ length l.out_widths * l.left;
}

abbrev pub decreases-rows : goal.decreases-rows
decreases-rows l = l.left
