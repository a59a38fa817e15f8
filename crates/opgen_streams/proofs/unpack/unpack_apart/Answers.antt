use Rattle.std.proofs.Common.{◌<◌, ◌+◌, length, drop, refl, ap, ◌∙◌, arith}
use Rattle.std.proofs.lemmas.List.Sums.{sum_by-drop_more}
use Rattle.opgen_num.specs.Words.{nat}
use Rattle.opgen_streams.specs.Rows.{row_in}
use Rattle.opgen_streams.specs.Streams.{word_in}
use Rattle.opgen_streams.proofs.Rows.{length-row_in}
use Rattle.opgen_streams.proofs.RowsInStreams.{column_left, column_taken}
use Rattle.opgen_streams.proofs.Unpacked.{none_unpacked, one_unpacked, rows_put}
use Rattle.opgen_streams.proofs.unpack.unpack_apart.Goals as goal

pub loop-width-init : goal.loop-width-init
loop-width-init c =
    let widths = c.args.widths.now in
    record {
      place = omega (arith, c.saturating_mul-place.ensures);
      lanes = c.requires.lanes;
      left = λ k. refl;
      unpacked = none_unpacked (length widths) c.args.count c.args.first c.args.apart (row_in widths c.args.lanes.now) c.args.cells.now;
    }

pub loop-width-preserved : goal.loop-width-preserved
loop-width-preserved c =
    let widths = c.args.widths.now in
    let all = c.args.lanes.now in
    let column = c.loop-width.width-index in
    let rest = c.loop-width.rest.now in
    let now = c.loop-width.invariant in
    let here : column < length widths = omega arith in
    record {
      place = omega (arith, now.place, c.saturating_add-place.ensures);
      lanes = omega (arith, sum_by-drop_more (λ n. n) widths column 0 here, now.lanes);
      left = λ k. ap (λ ls. row_in (drop (column + 1) widths) ls k) c.split_at.ensures.back ∙ column_left widths all rest k column here (now.left k);
      unpacked = one_unpacked (length widths) c.args.count c.args.first c.args.apart (row_in widths all) c.args.cells.now (omega arith) column
          c.loop-width.place c.saturating_mul-distance.result (λ k. nat (word_in c.split_at.result.0.now k)) c.loop-width.cells
          c.unpack_column.new.cells here now.place c.saturating_mul-distance.ensures
          (λ k within. ap (λ ls. nat (word_in ls k)) c.split_at.ensures.front ∙ column_taken widths all rest k column here (now.left k))
          (record { put = c.unpack_column.ensures.put; kept = c.unpack_column.ensures.kept; all = c.unpack_column.ensures.length })
          now.unpacked;
    }

pub returns-clause-put : goal.returns-clause-put
returns-clause-put c =
    let widths = c.args.widths.now in
    rows_put (length widths) c.args.count c.args.first c.args.apart c.loop-width.width-index (row_in widths c.args.lanes.now) c.args.cells.now
    c.loop-width.cells (omega arith) c.loop-width.invariant.unpacked (λ k. length-row_in widths c.args.lanes.now k)

pub returns-clause-kept : goal.returns-clause-kept
returns-clause-kept c i none =
    c.loop-width.invariant.unpacked.kept i (λ k column within done. none k column within (omega (arith, done)))
