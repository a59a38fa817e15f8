use Rattle.std.proofs.Common.{◌≡◌, length}
use Rattle.opgen_num.specs.Words.{AreRowsOfCells}
use Rattle.opgen_design.specs.Run.{input_widths, output_widths}
use Rattle.opgen_sim.proofs.RunRows.{HasRun}
use Rattle.opgen_sim.proofs.rows.run_cycles.Given as goal

abbrev pub invariant-rows : goal.invariant-rows
invariant-rows l = record {
  same : l.sim.design ≡ l.fn.design;
  fit : AreRowsOfCells (input_widths l.fn.design) l.left l.inputs;
  room : length l.outputs.items ≡ length (output_widths l.fn.design);
  columns : l.columns ≡ length (input_widths l.fn.design);
  run : HasRun l.fn.design l.fn.rows l.fn.cells l.sim.registers l.left l.inputs l.results.items;
}

abbrev pub decreases-rows : goal.decreases-rows
decreases-rows l = l.left
