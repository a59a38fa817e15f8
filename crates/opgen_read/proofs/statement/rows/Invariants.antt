use Rattle.std.proofs.Common.{◌≡◌, length}
use Rattle.opgen_vhdl.specs.Reader.{rows_at}
use Rattle.opgen_lex.specs.Left.{left}
use Rattle.opgen_read.specs.Rows.{with_rows}
use Rattle.opgen_read.proofs.statement.rows.Given as goal

abbrev pub invariant-rows : goal.invariant-rows
invariant-rows l = record {
  same : with_rows l.rows (rows_at (length (left l.rest)) (left l.rest)) ≡ rows_at (length (left l.fn.rest)) (left l.fn.rest);
}

abbrev pub decreases-rows : goal.decreases-rows
decreases-rows l = length (left l.rest)
