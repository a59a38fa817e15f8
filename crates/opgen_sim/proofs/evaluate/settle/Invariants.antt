use Rattle.std.proofs.Common.{◌≡◌, drop}
use Rattle.opgen_runs.specs.Evaluate.{HaveWidths, settle}
use Rattle.opgen_sim.proofs.evaluate.settle.Given as goal

abbrev pub invariant-loop-place : goal.invariant-loop-place
invariant-loop-place l = record {
  same : settle l.design.drivers (drop l.place-index l.order) (record { signals = l.signals; ports = l.ports }) ≡ settle l.design.drivers
      l.order (record { signals = l.initial.signals; ports = l.initial.ports });
  widths : HaveWidths l.design (record { signals = l.signals; ports = l.ports });
}
