use Rattle.std.proofs.Common.{◌≡◌, ◌≤◌, ◌+◌, drop, length, map}
use Rattle.opgen_design.specs.Run.{at_ports, is_in}
use Rattle.opgen_machine.proofs.layout.count_inputs.Given as goal

abbrev pub invariant-loop-port : goal.invariant-loop-port
invariant-loop-port l = record {
  inputs : l.count + length (at_ports is_in (drop l.port-index l.ports) (map (λ p. p.width) (drop l.port-index l.ports))) ≡ length
      (at_ports is_in l.ports (map (λ p. p.width) l.ports));
  few : l.count ≤ l.port-index;
}
