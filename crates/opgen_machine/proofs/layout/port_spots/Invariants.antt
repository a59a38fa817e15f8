use Rattle.std.proofs.Common.{◌≡◌, ◌≤◌, ◌+◌, ◌++◌, drop}
use Rattle.opgen_machine.specs.Layout.{port_spots}
use Rattle.opgen_machine.proofs.layout.port_spots.Given as goal

abbrev pub invariant-loop-port : goal.invariant-loop-port
invariant-loop-port l = record {
  spots : l.spots.items ++ port_spots l.next l.rest (drop l.port-index l.ports) ≡ port_spots l.at l.rest l.ports;
  next : l.next ≤ l.at + l.port-index;
}
