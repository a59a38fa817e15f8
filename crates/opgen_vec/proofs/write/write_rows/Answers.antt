use Rattle.opgen_vec.proofs.Writing.{row_more, left_cells}
use Rattle.opgen_vec.proofs.write.write_rows.Goals as goal

pub rows-preserved : goal.rows-preserved
rows-preserved c =
    let (room, inputs) = left_cells _ _ _ c.rows.invariant.inputs c.rows-test.true in
    let (room', outputs) = left_cells _ _ _ c.rows.invariant.outputs c.rows-test.true in
    let line = rw (c.split_at.ensures.front, c.split_at-in-rows.ensures.front) at c.in_ok-put_line.ensures in
    rw (c.split_at.ensures.back, c.split_at-in-rows.ensures.back) record {
      text = row_more _ _ _ _ _ _ _ _ c.rows.invariant.text c.rows-test.true line;
      inputs = inputs;
      outputs = outputs;
    }
