use Rattle.std.proofs.Common.{◌≡◌, ◌+◌, ◌-◌, ◌*◌, length}
use Rattle.std.specs.List.{sum}
use Rattle.opgen_design.specs.Run.{input_widths, output_widths}
use Rattle.opgen_sim.proofs.Progress.{Progress}
use Rattle.opgen_sim.proofs.streams.run_lanes.Given as goal

abbrev pub invariant-steps : goal.invariant-steps
invariant-steps l = record {
  same : l.lanes.design ≡ l.fn.lanes.design;
  ins : length l.inputs.items ≡ sum (input_widths l.fn.lanes.design);
  outs : length l.outputs.items ≡ sum (output_widths l.fn.lanes.design);
  room : length l.results.items ≡ l.rows * length (output_widths l.fn.lanes.design);
  run : Progress l.fn.lanes.design l.rows l.depth l.apart l.row l.cells l.lanes.held l.results.items;
}

abbrev pub decreases-steps : goal.decreases-steps
decreases-steps l = l.depth + l.apart - l.row
