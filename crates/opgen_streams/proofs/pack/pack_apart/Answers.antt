use Rattle.std.proofs.Common.{◌≡◌, ◌<◌, ◌+◌, ◌-◌, ◌*◌, ◌^◌, ◌≤◌, length, take, drop, get_or, sym, ap, ◌∙◌, arith}
use Rattle.opgen_num.specs.Words.{word}
use Rattle.opgen_streams.specs.Rows.{row_with_zeros}
use Rattle.opgen_streams.proofs.Places.{cell_far}
use Rattle.opgen_streams.proofs.Rows.{cell_of_row, length-row_with_zeros}
use Rattle.opgen_streams.proofs.RowsInStreams.{place_more, row_put, word_more}
use Rattle.opgen_streams.proofs.pack.pack_apart.Goals as goal

pub loop-width-preserved : goal.loop-width-preserved
loop-width-preserved c =
    let widths = c.args.widths.now in
    let cells = c.args.cells.now in
    let column = c.loop-width.width-index in
    let start = c.loop-width.start in
    let n = length widths in
    let now = c.loop-width.invariant in
    let few : length cells ≤ 2 ^ 64 - 1 = omega arith in
    let size : start + get_or widths column 0 - start ≡ get_or widths column 0 = omega arith in
    let here : column < n = omega arith in
    let wide = length (take (start + get_or widths column 0 - start) (drop start c.loop-width.lanes)) in
    record {
      place = omega (arith, now.place, c.saturating_add-place.ensures);
      lanes = place_more widths _ _ _ _ _ now.lanes here size c.pack_column.auto.lanes;
      packed = λ k within.
          let row = c.args.first + k * c.args.apart in
          let cell : get_or cells (c.loop-width.place + k * c.saturating_mul-distance.result) 0 ≡ get_or (row_with_zeros n row cells) column 0
          = cell_far cells few c.loop-width.place c.saturating_mul-distance.result (c.args.first * n + column) (c.args.apart * n) k now.place
          c.saturating_mul-distance.ensures
          ∙ ap (λ i. get_or cells i 0) (omega arith)
          ∙ sym (cell_of_row n row cells column here) in
          word_more _ widths (row_with_zeros n row cells) _ _ _ _ _ _ now.lanes here (length-row_with_zeros n row cells) size
          c.pack_column.auto.lanes
          (c.pack_column.ensures k within ∙ ap (word wide) cell)
          (now.packed k within);
    }

pub returns-clause-rows : goal.returns-clause-rows
returns-clause-rows c k within =
    let widths = c.args.widths.now in
    let row = row_with_zeros (length widths) (c.args.first + k * c.args.apart) c.args.cells.now in
    row_put widths row _ _ _ _ c.loop-width.invariant.lanes (omega arith)
    (length-row_with_zeros (length widths) (c.args.first + k * c.args.apart) c.args.cells.now) (c.loop-width.invariant.packed k within)
