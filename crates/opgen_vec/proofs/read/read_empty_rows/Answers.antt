use Rattle.std.proofs.Common.{◌≡◌, ◌+◌, [], length, sym, refl, arith}
use Rattle.std.proofs.lemmas.Bool.{eqb-true, eqb-false}
use Rattle.opgen_vec.proofs.Rows.{one_more, first_bad, too_many, vectors, all_read, no_line, empty_row, no_row}
use Rattle.opgen_vec.proofs.read.read_empty_rows.Goals as goal

pub returns-then-rows-eq-MAX_ROWS-clause-too_many : goal.returns-then-rows-eq-MAX_ROWS-clause-too_many
returns-then-rows-eq-MAX_ROWS-clause-too_many c _ =
    too_many _ _ _ _ _ _ (rw c.split_line.ensures.lines at c.lines.invariant.read) c.if-rows-eq-MAX_ROWS.true

pub returns-then-not-is_empty-clause-bad_line : goal.returns-then-not-is_empty-clause-bad_line
returns-then-not-is_empty-clause-bad_line c line e =
    let number : c.lines.rows + 1 ≡ line = cc in
    let some = eqb-false (length c.split_line.result.0.now) 0 (sym c.if-not-is_empty.ensures) in
    first_bad _ _ _ _ _ _ _ (rw c.split_line.ensures.lines at c.lines.invariant.read) c.lines.invariant.few c.if-rows-eq-MAX_ROWS.false
    (no_row _ some) number

pub lines-preserved : goal.lines-preserved
lines-preserved c =
    let none = eqb-true (length c.split_line.result.0.now) 0 (sym c.if-not-is_empty.ensures) in
    record {
      few = omega (arith, c.lines.invariant.few, c.if-rows-eq-MAX_ROWS.false);
      read = one_more _ [] [] _ _ _ _ (rw c.split_line.ensures.lines at c.lines.invariant.read) (empty_row _ none) refl;
    }

pub returns-clause-count : goal.returns-clause-count
returns-clause-count c =
    (all_read _ _ _ _ (no_line _ _ _ _ _ (eqb-true (length c.lines.rest.now) 0 (sym c.lines-test.ensures)) c.lines.invariant.read)).0

pub returns-clause-rows : goal.returns-clause-rows
returns-clause-rows c =
    vectors _ _ _ _ (no_line _ _ _ _ _ (eqb-true (length c.lines.rest.now) 0 (sym c.lines-test.ensures)) c.lines.invariant.read)
    c.lines.invariant.few
