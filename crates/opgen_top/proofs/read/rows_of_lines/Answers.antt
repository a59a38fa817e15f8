use Rattle.std.proofs.Common.{◌≡◌, length, refl, arith}
use Rattle.opgen_top.proofs.Holding.{holds_empty}
use Rattle.opgen_top.proofs.read.rows_of_lines.Goals as goal

pub returns-then-is_empty-clause-rows : goal.returns-then-is_empty-clause-rows
returns-then-is_empty-clause-rows c =
    let none : length c.args.widths.now ≡ 0 = grind (arith, c.is_empty.ensures, c.if-is_empty.true) in
    holds_empty c.args.widths.now c.args.bytes.now _ none c.in_ok-read_empty_rows.ensures.count c.in_ok-read_empty_rows.ensures.rows refl c.new.ensures.items
