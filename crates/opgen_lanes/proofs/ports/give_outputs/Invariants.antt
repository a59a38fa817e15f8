use Rattle.std.proofs.Common.{take, drop, map}
use Rattle.opgen_design.specs.Run.{at_ports, is_out}
use Rattle.opgen_lanes.specs.Banks.{words_at}
use Rattle.opgen_lanes.proofs.PortWords.{Given}
use Rattle.opgen_lanes.proofs.ports.give_outputs.Given as goal

abbrev pub invariant-loop-place : goal.invariant-loop-place
invariant-loop-place l = Given (at_ports is_out (take l.place l.ports) (take l.place (map (λ p. p.width) l.ports)))
    (at_ports is_out (drop l.place l.ports) (drop l.place (map (λ p. p.width) l.ports))) l.at l.outputs
    (λ k. at_ports is_out (take l.place l.ports) (take l.place (words_at l.bank k)))
