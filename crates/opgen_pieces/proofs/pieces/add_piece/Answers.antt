use Rattle.std.proofs.Common.{length, sym, subst}
use Rattle.std.specs.Prelude.{IsTrue}
use Rattle.opgen_net.specs.Cells.{is_sum}
use Rattle.opgen_net.specs.Valid.{FitsNodes, widths}
use Rattle.opgen_pieces.proofs.Expressions.{sum-class, sum-fits}
use Rattle.opgen_pieces.proofs.pieces.add_piece.Goals as goal

pub cells-requires-clause-class : goal.cells-requires-clause-class
cells-requires-clause-class c =
    let sum = c.args.sum in
    subst (λ e. IsTrue (is_sum e)) (sym c.in_ok-expression_of.ensures)
    (sum-class (widths c.args.net.now.nodes) sum.is_minus sum.first.now sum.second.now)

pub cells-requires-clause-fits : goal.cells-requires-clause-fits
cells-requires-clause-fits c =
    let sum = c.args.sum in
    let ws = widths c.args.net.now.nodes in
    let are = c.requires.operands in
    subst (FitsNodes ws (length sum.first.now)) (sym c.in_ok-expression_of.ensures)
    (sum-fits ws sum.is_minus sum.first.now sum.second.now are.width are.alike are.first_there are.second_there)
