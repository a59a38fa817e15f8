use Rattle.std.proofs.Common.{◌≡◌, ◌+◌, ◌-◌, ◌*◌, false, true, length, take, drop, map, sym, ap, ◌∙◌, subst, arith}
use Rattle.std.proofs.lemmas.List.{drop-drop, length-map}
use Rattle.opgen_num.proofs.RowsOfCells.{first_fits, later_rows, row_room}
use Rattle.opgen_num.specs.Words.{FitWidths, AreRowsOfCells}
use Rattle.opgen_operator.specs.Outputs.{inputs_of, outputs_of}
use Rattle.opgen_vec.specs.GoodRow.{IsGoodRow}
use Rattle.opgen_vec.specs.Writing.{row_count}
use Rattle.opgen_check.specs.declared.checked.Checked.TheVariants.{Bad, Good}
use Rattle.opgen_check.specs.Verdict.{IsGoodAt, IsJudged, IsVerdict, rows_up_to}
use Rattle.opgen_check.proofs.Judging.{passed}
use Rattle.opgen_check.proofs.rows.judge_rows.Goals as goal
use Rattle.opgen_check.proofs.rows.judge_rows.Goals.{else-row-latency-via-then-row-latency+else-not-are_good_for, else-row-latency-via-else-row-latency}

pub rows-init : goal.rows-init
rows-init c =
    let spec = c.args.spec.now in
    let outputs = c.args.outputs.now in
    let all = row_count c.args.inputs.now.columns c.args.inputs.now.cells.items in
    let none : 0 ≡ 0 * length (outputs_of spec) = omega arith in
    let whole : all ≡ all - 0 = omega arith in
    rw c.row_count-rows.ensures record {
      within = omega arith;
      left = ap (λ k. drop k outputs) none;
      fit = subst (λ n. AreRowsOfCells (map (λ p. p.format.width) (outputs_of spec)) n outputs) whole c.requires.outputs;
      good = λ u lt judged. absurd (omega (arith, lt));
    }

pub split_at-requires : goal.split_at-requires
split_at-requires c =
    let widths = map (λ p. p.format.width) (outputs_of c.args.spec.now) in
    omega (
      arith,
      c.requires.columns,
      length-map (outputs_of c.args.spec.now) (λ p. p.format.width),
      row_room widths c.rows.left.now (c.row_count-rows.result - c.rows.row) (omega (arith, c.rows-test.true)) c.rows.invariant.fit,
    )

pub are_good_for-requires-clause-outputs : goal.are_good_for-requires-clause-outputs
are_good_for-requires-clause-outputs c =
    let outs = outputs_of c.args.spec.now in
    let widths = map (λ p. p.format.width) outs in
    let fits = first_fits widths c.rows.left.now (c.row_count-rows.result - c.rows.row) (omega (arith, c.rows-test.true)) c.rows.invariant.fit in
    let wide : length widths ≡ c.args.columns = length-map outs (λ p. p.format.width) ∙ sym c.requires.columns in
    let first = ap (λ n. take n c.rows.left.now) wide ∙ sym c.split_at.ensures.front in
    subst (FitWidths widths) first fits

pub returns-then-not-are_good_for : goal.returns-then-not-are_good_for
returns-then-not-are_good_for c =
    let spec = c.args.spec.now in
    let cells = c.args.inputs.now.cells.items in
    let outputs = c.args.outputs.now in
    let row = c.rows.row in
    let now = c.rows.invariant in
    let outs = length (outputs_of spec) in
    let here = c.split_at.ensures.front ∙ ap (take c.args.columns) now.left ∙ ap (λ k. take k (drop (row * outs) outputs)) c.requires.columns in
    let given = rows_up_to (length (inputs_of spec)) (row - c.args.latency) cells in
    let bad : IsGoodAt spec c.args.latency cells outputs row → ⊥ = λ good.
    let judged : IsGoodRow spec given c.split_at.result.0.now = subst (IsGoodRow spec given) (sym here) good in
    let yes : c.are_good_for.result ≡ true = c.are_good_for.ensures.1 judged in
    let no : c.are_good_for.result ≡ false = c.if-not-are_good_for.true in cc in
    subst (λ n. IsVerdict spec c.args.latency n cells outputs (Bad row)) c.row_count-rows.ensures record {
      judged = record { from = c.if-row-latency.true; there = c.rows-test.true };
      bad = bad;
      before = now.good;
    }

pub rows-preserved : goal.rows-preserved
rows-preserved c =
    let spec = c.args.spec.now in
    let cells = c.args.inputs.now.cells.items in
    let outputs = c.args.outputs.now in
    let rows = c.row_count-rows.result in
    let row = c.rows.row in
    let now = c.rows.invariant in
    let outs = length (outputs_of spec) in
    let widths = map (λ p. p.format.width) (outputs_of spec) in
    let wide : c.args.columns ≡ length widths = c.requires.columns ∙ sym (length-map (outputs_of spec) (λ p. p.format.width)) in
    let here = c.split_at.ensures.front ∙ ap (take c.args.columns) now.left ∙ ap (λ k. take k (drop (row * outs) outputs)) c.requires.columns in
    let given = rows_up_to (length (inputs_of spec)) (row - c.args.latency) cells in
    let good : IsJudged c.args.latency rows row → IsGoodAt spec c.args.latency cells outputs row = λ judged.
    elim c.else-row-latency.branch [
      | else-row-latency-via-then-row-latency+else-not-are_good_for w ↦
          let yes : w.are_good_for.result ≡ true = w.if-not-are_good_for.false in
          subst (IsGoodRow spec given) here (w.are_good_for.ensures.0 yes)
      | else-row-latency-via-else-row-latency w ↦ absurd (omega (arith, judged.from, w.if-row-latency.false))
    ] in
    let place : row * outs + c.args.columns ≡ (row + 1) * outs = omega (arith, c.requires.columns) in
    let fewer : rows - row - 1 ≡ rows - (row + 1) = omega arith in
    let rest = c.split_at.ensures.back ∙ ap (λ n. drop n c.rows.left.now) wide in
    record {
      within = omega (arith, c.rows-test.true);
      left = c.split_at.ensures.back ∙ ap (drop c.args.columns) now.left ∙ drop-drop c.args.columns (row * outs) outputs ∙ ap (λ n. drop n outputs) place;
      fit = rw rest (subst (λ n. AreRowsOfCells widths n (drop (length widths) c.rows.left.now)) fewer
          (later_rows widths c.rows.left.now (rows - row) (omega (arith, c.rows-test.true)) now.fit));
      good = passed spec c.args.latency rows cells outputs row now.good good;
    }

pub returns : goal.returns
returns c =
    let now = c.rows.invariant in
    subst (λ rows. IsVerdict c.args.spec.now c.args.latency rows c.args.inputs.now.cells.items c.args.outputs.now (Good c.saturating_sub.result))
    c.row_count-rows.ensures record {
      good = λ u judged. now.good u (omega (arith, c.rows-test.false, judged.there)) judged;
      counted = c.saturating_sub.ensures;
    }
