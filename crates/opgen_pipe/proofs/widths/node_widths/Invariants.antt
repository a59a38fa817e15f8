use Rattle.std.proofs.Common.{◌≡◌, drop}
use Rattle.opgen_net.specs.Valid.{widths_on, widths, AllMayStand}
use Rattle.opgen_pipe.proofs.widths.node_widths.Given as goal

abbrev pub invariant-nodes : goal.invariant-nodes
invariant-nodes l = record {
  rest : widths_on l.widths.items (drop l.node-index l.nodes) ≡ widths l.nodes;
  stand : AllMayStand l.widths.items (drop l.node-index l.nodes);
}
