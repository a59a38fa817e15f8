use Rattle.std.proofs.Common.{◌≡◌, take, drop, map}
use Rattle.opgen_design.specs.Run.{at_ports, is_in}
use Rattle.opgen_lanes.specs.Banks.{IsBank, widths_of, words_at}
use Rattle.opgen_lanes.proofs.PortWords.{Taken}
use Rattle.opgen_lanes.proofs.ports.take_inputs.Given as goal

abbrev pub invariant-loop-place : goal.invariant-loop-place
invariant-loop-place l = record {
  taken : Taken (at_ports is_in l.ports (map (λ p. p.width) l.ports)) l.inputs
      (at_ports is_in (drop l.place l.ports) (drop l.place (map (λ p. p.width) l.ports))) l.at
      (λ k. at_ports is_in (take l.place l.ports) (take l.place (words_at l.bank k)));
  bank : IsBank l.bank;
  widths : widths_of l.bank ≡ map (λ p. p.width) l.ports;
}
