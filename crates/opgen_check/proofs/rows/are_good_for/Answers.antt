use Rattle.std.proofs.Common.{◌≡◌, ℕ, ◌+◌, ◌*◌, ◌≤◌, List, length, map, sym, ap, ◌∙◌, subst, arith}
use Rattle.std.proofs.Math.Nat.{mul-le-mul_right}
use Rattle.std.proofs.lemmas.List.{length-map, length-take-le}
use Rattle.opgen_num.proofs.RowsOfCells.{length-rows_of_cells}
use Rattle.opgen_operator.specs.Outputs.{inputs_of, outputs_of}
use Rattle.opgen_operator.proofs.Operators.{some_input}
use Rattle.opgen_check.proofs.Cells.{is_cycle, is_history}
use Rattle.opgen_vec.specs.Writing.{row_count}
use Rattle.opgen_check.proofs.rows.are_good_for.Goals as goal

pub slice_bounds-is_good_row-end : goal.slice_bounds-is_good_row-end
slice_bounds-is_good_row-end c =
    let ports = inputs_of c.args.spec.now in
    let columns = c.args.inputs.now.columns in
    let cells = c.args.inputs.now.cells.items in
    let whole : length cells ≡ row_count columns cells * length (map (λ p. p.format.width) ports) =
    length-rows_of_cells (map (λ p. p.format.width) ports) cells (row_count columns cells) c.requires.rows in
    let within : (c.args.row + 1) * columns ≤ row_count columns cells * columns = mul-le-mul_right columns (omega (arith, c.requires.there)) in
    let wide : length (map (λ p. p.format.width) ports) ≡ columns = length-map ports (λ p. p.format.width) ∙ sym c.requires.columns in
    let all : row_count columns cells * length (map (λ p. p.format.width) ports) ≡ row_count columns cells * columns =
    ap (λ n. row_count columns cells * n) wide in
    sym (length-take-le ((c.args.row + 1) * columns) c.as_slice-cells.result.now
    (subst (λ (xs : List ℕ). (c.args.row + 1) * columns ≤ length xs) (sym c.as_slice-cells.ensures.value) (omega (arith, whole, all, within))))

pub is_good_row-requires-clause-inputs : goal.is_good_row-requires-clause-inputs
is_good_row-requires-clause-inputs c =
    let spec = c.args.spec.now in
    rw (c.requires.columns, c.as_slice-cells.ensures.value) (is_history (inputs_of spec) (some_input spec.op c.requires.valid.op.ranges) _ c.args.inputs.now.cells.items
    c.requires.rows (c.args.row + 1) (omega arith) (omega (arith, c.requires.there)))

pub is_good_row-requires-clause-outputs : goal.is_good_row-requires-clause-outputs
is_good_row-requires-clause-outputs c = is_cycle (outputs_of c.args.spec.now) c.args.outputs.now c.requires.outputs
