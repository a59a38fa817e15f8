use Rattle.std.proofs.Common.{◌≡◌, ◌+◌, length, sym, arith}
use Rattle.std.proofs.lemmas.Bool.{eqb-true}
use Rattle.opgen_vec.proofs.RowTexts.{bad-line, row-row_cells}
use Rattle.opgen_vec.proofs.Rows.{one_more, first_bad, too_many, vectors, no_line}
use Rattle.opgen_vec.proofs.read.read_cells.Goals as goal

pub returns-then-count-eq-MAX_ROWS-clause-too_many : goal.returns-then-count-eq-MAX_ROWS-clause-too_many
returns-then-count-eq-MAX_ROWS-clause-too_many c _ =
    too_many _ _ _ _ _ _ (rw c.split_line.ensures.lines at c.lines.invariant.read) c.if-count-eq-MAX_ROWS.true

pub returns-then-not-branch-clause-bad_line : goal.returns-then-not-branch-clause-bad_line
returns-then-not-branch-clause-bad_line c line e =
    let number : c.lines.count + 1 ≡ line = cc in
    let none = rw c.if-not-branch.true at c.in_ok-read_row.ensures.cells in
    first_bad _ _ _ _ _ _ _ (rw c.split_line.ensures.lines at c.lines.invariant.read) c.lines.invariant.few c.if-count-eq-MAX_ROWS.false
    (bad-line _ _ none) number

pub lines-preserved : goal.lines-preserved
lines-preserved c =
    let cells = rw c.if-not-branch.false at c.in_ok-read_row.ensures.cells in
    record {
      few = omega (arith, c.lines.invariant.few, c.if-count-eq-MAX_ROWS.false);
      read = one_more _ _ _ _ _ _ _ (rw c.split_line.ensures.lines at c.lines.invariant.read)
          (row-row_cells _ _ _ cells) c.in_ok-read_row.ensures.kept;
    }

pub returns-clause-rows : goal.returns-clause-rows
returns-clause-rows c =
    vectors _ _ _ _ (no_line _ _ _ _ _ (eqb-true (length c.lines.rest.now) 0 (sym c.lines-test.ensures)) c.lines.invariant.read)
    c.lines.invariant.few
