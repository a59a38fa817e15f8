use Rattle.std.proofs.Common.{◌≡◌, drop, length, map}
use Rattle.opgen_design.specs.Sound.{signal_widths}
use Rattle.opgen_runs.specs.Evaluate.{hand_all_on}
use Rattle.opgen_sim.proofs.evaluate.hand_all_on.Given as goal

abbrev pub invariant-loop-place : goal.invariant-loop-place
invariant-loop-place l = record {
  same : hand_all_on l.design.enable (drop l.place l.design.drivers) (record { signals = l.signals; ports = l.ports }) l.next ≡
      hand_all_on l.design.enable l.design.drivers (record { signals = l.signals; ports = l.ports }) l.initial.next;
  widths : map length l.next ≡ signal_widths l.design;
}
