use Rattle.std.proofs.Common.{◌≡◌, ◌≤◌, ◌*◌, ◌-◌, drop, length, map}
use Rattle.opgen_num.specs.Words.{AreRowsOfCells}
use Rattle.opgen_operator.specs.Outputs.{outputs_of}
use Rattle.opgen_check.proofs.Judging.{GoodBelow}
use Rattle.opgen_check.proofs.rows.judge_rows.Given as goal

abbrev pub invariant-rows : goal.invariant-rows
invariant-rows l = record {
  within : l.row ≤ l.rows;
  left : l.left ≡ drop (l.row * length (outputs_of l.spec)) l.outputs;
  fit : AreRowsOfCells (map (λ p. p.format.width) (outputs_of l.spec)) (l.rows - l.row) l.left;
  good : GoodBelow l.spec l.latency l.rows l.inputs.cells.items l.outputs l.row;
}

abbrev pub decreases-rows : goal.decreases-rows
decreases-rows l = l.rows - l.row
