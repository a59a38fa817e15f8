use Rattle.std.proofs.Common.{refl, rules}
use Rattle.opgen_vec.proofs.Rows.{whole, rows-of_cells, row_count-rows}
use Rattle.opgen_vec.proofs.read.read_vectors.Goals as goal

pub returns-in_err-cells-clause-bad_line : goal.returns-in_err-cells-clause-bad_line
returns-in_err-cells-clause-bad_line c line e = c.in_err-cells.ensures.bad_line line (search rules)

pub invariant_of-result : goal.invariant_of-result
invariant_of-result c = record { whole = whole _ _ _ _ refl c.in_ok-cells.ensures.rows.rows }

pub returns-clause-cells : goal.returns-clause-cells
returns-clause-cells c = rows-of_cells _ _ _ c.in_ok-cells.ensures.rows.rows

pub returns-clause-count : goal.returns-clause-count
returns-clause-count c = row_count-rows _ _ _ _ refl c.requires.some c.in_ok-cells.ensures.rows.rows
