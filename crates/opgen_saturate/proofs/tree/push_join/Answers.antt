use Rattle.std.proofs.Common.{sym, subst}
use Rattle.opgen_net.specs.declared.cell.Class.TheVariants.{Logic}
use Rattle.opgen_net.specs.Cells.{IsOfClass}
use Rattle.opgen_net.specs.Valid.{FitsNodes, widths}
use Rattle.opgen_saturate.proofs.Joins.{join-stands}
use Rattle.opgen_saturate.proofs.tree.push_join.Goals as goal

pub cells-requires-clause-class : goal.cells-requires-clause-class
cells-requires-clause-class c =
    let net = c.args.net.now in
    subst (IsOfClass (widths net.nodes) Logic) (sym c.in_ok-any_node.ensures)
    (join-stands net c.requires.net c.args.first c.requires.bits c.args.count c.requires.some c.requires.few c.requires.there).0

pub cells-requires-clause-fits : goal.cells-requires-clause-fits
cells-requires-clause-fits c =
    let net = c.args.net.now in
    subst (FitsNodes (widths net.nodes) 1) (sym c.in_ok-any_node.ensures)
    (join-stands net c.requires.net c.args.first c.requires.bits c.args.count c.requires.some c.requires.few c.requires.there).1
