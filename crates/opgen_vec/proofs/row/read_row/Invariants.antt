use Rattle.std.proofs.Common.{◌≡◌, ◌+◌, ◌-◌, ◌≤◌, length, take, drop}
use Rattle.std.specs.Prelude.{All, vec_len, vec_capacity}
use Rattle.opgen_num.specs.declared.format.TheConstants.{MAX_WIDTH}
use Rattle.opgen_vec.specs.Digits.{row_cells, spaced_cells}
use Rattle.opgen_vec.proofs.Words.{before}
use Rattle.opgen_vec.proofs.row.read_row.Given as goal

abbrev pub invariant-loop-width : goal.invariant-loop-width
invariant-loop-width l = record {
  cells : row_cells l.fn.widths l.fn.line ≡ before (drop (length l.fn.cells.items) l.cells.items) (spaced_cells (drop l.width-index
      l.others) l.rest);
  same : take (length l.fn.cells.items) l.cells.items ≡ l.fn.cells.items;
  kept : length l.fn.cells.items ≤ length l.cells.items;
  room : vec_len l.cells + (length l.others - l.width-index) ≤ vec_capacity l.cells;
  narrow : All (λ width. width ≤ MAX_WIDTH) l.others;
}
