use Rattle.std.proofs.Common.{[], subst, arith}
use Rattle.opgen_net.specs.Valid.{MayStand}
use Rattle.opgen_design.proofs.WidthLaws.{width-is_width}
use Rattle.opgen_pipe.proofs.cells.cell_of.Goals as goal

pub returns-in-Cells-clause-wide : goal.returns-in-Cells-clause-wide
returns-in-Cells-clause-wide c =
    let ws = c.args.widths.now in
    let h = subst (MayStand ws) c.in-Cells.is c.requires.stands in
    let x = width-is_width ws [] c.in-Cells.expr c.in-Cells.width h.1.has_width in
    (x.0, omega (arith, x.1))
