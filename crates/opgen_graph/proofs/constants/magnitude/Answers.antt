use Rattle.std.proofs.Common.{sym, subst}
use Rattle.opgen_graph.specs.Placing.{IsNode}
use Rattle.opgen_ports.specs.OddParts.{odd_part}
use Rattle.opgen_graph.proofs.Standing.{multiple_of-all}
use Rattle.opgen_graph.proofs.constants.magnitude.Goals as goal

pub operand-requires-clause-node : goal.operand-requires-clause-node
operand-requires-clause-node c =
    let a = c.args in
    subst (IsNode a.net.now) (sym c.multiple_of-odd.ensures)
    (multiple_of-all (IsNode a.net.now) a.known.now (odd_part a.number) c.requires.nodes c.requires.odd)
