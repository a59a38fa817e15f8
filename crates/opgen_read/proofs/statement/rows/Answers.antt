use Rattle.std.proofs.Common.{length, ap, sym, ◌∙◌, arith}
use Rattle.opgen_vhdl.specs.Reader.{rows_at}
use Rattle.opgen_vhdl.proofs.Takes.{row-shorter}
use Rattle.opgen_lex.specs.Left.{left}
use Rattle.opgen_read.specs.Rows.{with_rows}
use Rattle.opgen_read.proofs.TableRows.{rows-step, rows-stop, rows-fail}
use Rattle.opgen_read.proofs.statement.rows.Goals as goal

pub rows-smaller : goal.rows-smaller
rows-smaller c = omega (arith, row-shorter (left c.rows.rest) c.in-Some.row (left c.in-Some.more) (sym c.in-Some.ensures))

pub rows-preserved : goal.rows-preserved
rows-preserved c = record {
  same = ap (λ u. with_rows u (rows_at (length (left c.in-Some.more)) (left c.in-Some.more))) c.in_ok-push.ensures.ok
      ∙ sym (rows-step c.rows.rows (left c.rows.rest) c.in-Some.row (left c.in-Some.more) (sym c.in-Some.ensures)) ∙ c.rows.invariant.same;
}

pub returns-in-Some-other : goal.returns-in-Some-other
returns-in-Some-other c =
    sym c.rows.invariant.same ∙ rows-stop c.rows.rows (left c.rows.rest) c.in-Some-other.word (sym c.in_default.ensures)
    (sym c.in-Some-other.ensures)

pub returns-in-None : goal.returns-in-None
returns-in-None c =
    sym c.rows.invariant.same ∙ rows-fail c.rows.rows (left c.rows.rest) (sym c.in_default.ensures) (sym c.in-None.ensures)
