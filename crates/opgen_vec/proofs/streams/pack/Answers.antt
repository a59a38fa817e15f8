use Rattle.std.proofs.Common.{◌≡◌, ◌+◌, ◌*◌, sym, ap, ◌∙◌, arith}
use Rattle.opgen_num.specs.Words.{words_of}
use Rattle.opgen_streams.specs.Rows.{row_with_zeros}
use Rattle.opgen_vec.proofs.RowsInStreams.{row_of_vectors}
use Rattle.opgen_vec.proofs.streams.pack.Goals as goal

pub returns-clause-rows : goal.returns-clause-rows
returns-clause-rows c k within =
    let widths = c.args.widths.now in
    let cells = c.args.rows.now.cells.items in
    let columns = c.args.rows.now.columns in
    let row : c.args.first + k * 1 ≡ c.args.first + k = omega arith in
    c.pack_apart.ensures.rows k within
    ∙ ap (λ n. words_of widths (row_with_zeros n (c.args.first + k * 1) c.deref.result.now)) (sym c.requires.columns)
    ∙ ap (λ xs. words_of widths (row_with_zeros columns (c.args.first + k * 1) xs)) c.deref.ensures.value
    ∙ ap (λ n. words_of widths (row_with_zeros columns n cells)) row
    ∙ ap (words_of widths) (row_of_vectors columns (c.args.first + k) cells (omega (arith, c.requires.columns, c.requires.some)) c.args.rows.now.whole)
