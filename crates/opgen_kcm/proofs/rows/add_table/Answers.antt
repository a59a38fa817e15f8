use Rattle.std.proofs.Common.{◌≡◌, ◌≤◌, ◌^◌, length, ap, ◌∙◌, sym, subst, arith}
use Rattle.std.specs.Prelude.{All}
use Rattle.opgen_net.specs.Valid.{widths, FitsTable}
use Rattle.opgen_net.specs.WordRule.{IsThere}
use Rattle.opgen_kcm.specs.Entries.{greatest_of, shape_of, rows_in}
use Rattle.opgen_net.proofs.BitLists.{length-bits_from, bits_from-there}
use Rattle.opgen_kcm.proofs.Shapes.{fold-below, fits_table, some-greatest}
use Rattle.opgen_kcm.proofs.rows.add_table.Goals as goal

pub shape_of-shape-requires-clause-small : goal.shape_of-shape-requires-clause-small
shape_of-shape-requires-clause-small c =
    rw c.greatest_of-greatest.ensures (fold-below 0 (2 ^ 127) c.args.offsets.now (omega arith) c.requires.small)

pub word-requires-clause-width : goal.word-requires-clause-width
word-requires-clause-width c =
    let k = c.args.chunk in
    let size : length c.as_slice.result.now ≡ k.width =
    ap length (c.as_slice.ensures ∙ c.in_ok-bits.ensures) ∙ length-bits_from c.args.input k.low k.width in
    (omega (arith, size, c.requires.some), omega (arith, size, c.requires.few))

pub word-requires-clause-there : goal.word-requires-clause-there
word-requires-clause-there c =
    let k = c.args.chunk in
    let ws = widths c.args.net.now.nodes in
    subst (All (IsThere ws)) (sym (c.as_slice.ensures ∙ c.in_ok-bits.ensures))
    (bits_from-there ws c.args.input k.low k.width c.requires.there)

pub table-requires-clause-fits : goal.table-requires-clause-fits
table-requires-clause-fits c =
    let k = c.args.chunk in
    let ns = c.args.offsets.now in
    let ws = widths c.word.new.self.nodes in
    let size : length c.as_slice.result.now ≡ k.width =
    ap length (c.as_slice.ensures ∙ c.in_ok-bits.ensures) ∙ length-bits_from c.args.input k.low k.width in
    let rows : c.in_ok-rows.rows.items ≡ rows_in (shape_of ns) ns =
    c.in_ok-rows.ensures ∙ ap (λ s. rows_in s ns) c.shape_of-shape.ensures.value in
    let some : 1 ≤ greatest_of ns = some-greatest (greatest_of ns) (λ e. c.if-greatest-eq0.false (c.greatest_of-greatest.ensures ∙ e)) in
    subst (λ r. FitsTable ws c.in_ok-address.address r) (sym rows)
    (fits_table ns ws c.in_ok-address.address k.width (c.in_ok-address.ensures.width ∙ size) c.requires.some c.requires.few
    c.requires.offsets some c.requires.narrow)
