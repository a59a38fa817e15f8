use Rattle.std.proofs.Common.{length, sym, ap, ◌∙◌, subst, arith}
use Rattle.std.specs.Prelude.{All}
use Rattle.opgen_net.specs.Valid.{widths, FitsTable}
use Rattle.opgen_net.specs.WordRule.{IsThere}
use Rattle.opgen_gpc.proofs.Tables.{table-fits}
use Rattle.opgen_gpc.proofs.heaps.add_table.Goals as goal

pub word-requires-clause-width : goal.word-requires-clause-width
word-requires-clause-width c =
    let count = ap length c.as_slice.ensures in
    (omega (arith, count, c.requires.takes.six), omega (arith, count, c.requires.takes.six))

pub word-requires-clause-there : goal.word-requires-clause-there
word-requires-clause-there c = subst (All (IsThere (widths c.args.net.now.nodes))) (sym c.as_slice.ensures) c.requires.takes.bits

pub table-requires-clause-fits : goal.table-requires-clause-fits
table-requires-clause-fits c =
    let ws = widths c.word.new.self.nodes in
    let wide = c.in_ok-address.ensures.width ∙ ap length c.as_slice.ensures ∙ c.requires.takes.six in
    subst (FitsTable ws c.in_ok-address.address) (sym c.in_ok-rows.ensures)
    (table-fits ws c.in_ok-address.address c.args.counter.now.twice wide)
