use Rattle.std.proofs.Common.{drop, map}
use Rattle.opgen_num.specs.Words.{nat}
use Rattle.opgen_design.specs.Run.{at_ports, is_out}
use Rattle.opgen_sim.proofs.Ports.{Given}
use Rattle.opgen_sim.proofs.numbers.give_outputs.Given as goal

abbrev pub invariant-loop-place : goal.invariant-loop-place
invariant-loop-place l = Given (map nat (at_ports is_out l.ports l.words)) (at_ports is_out (drop l.place l.ports) (drop l.place l.words))
    l.at l.outputs
