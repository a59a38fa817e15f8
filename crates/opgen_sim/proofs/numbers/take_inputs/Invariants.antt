use Rattle.std.proofs.Common.{◌≡◌, take, drop, length, map}
use Rattle.opgen_num.specs.Words.{words_of}
use Rattle.opgen_design.specs.Run.{at_ports, is_in}
use Rattle.opgen_sim.proofs.Ports.{Taken}
use Rattle.opgen_sim.proofs.numbers.take_inputs.Given as goal

abbrev pub invariant-loop-place : goal.invariant-loop-place
invariant-loop-place l = record {
  taken : Taken (words_of (at_ports is_in l.ports (map (λ p. p.width) l.ports)) l.inputs)
      (at_ports is_in (take l.place l.ports) (take l.place l.words))
      (at_ports is_in (drop l.place l.ports) (drop l.place (map (λ p. p.width) l.ports))) (drop l.at l.inputs);
  widths : map length l.words ≡ map (λ p. p.width) l.ports;
}
