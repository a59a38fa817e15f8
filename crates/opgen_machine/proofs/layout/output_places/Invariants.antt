use Rattle.std.proofs.Common.{◌≡◌, ◌++◌, drop, map}
use Rattle.opgen_design.specs.Run.{at_ports, is_out}
use Rattle.opgen_machine.proofs.layout.output_places.Given as goal

abbrev pub invariant-loop-index : goal.invariant-loop-index
invariant-loop-index l = l.places.items ++ map (λ s. s.place) (at_ports is_out (drop l.index l.ports) (drop l.index l.spots)) ≡ map
    (λ s. s.place) (at_ports is_out l.ports l.spots)
