use Rattle.std.proofs.Common.{ℕ, ◌≡◌, ◌<◌, drop}
use Rattle.opgen_runs.specs.Evaluate.{settle}
use Rattle.opgen_streams.specs.Streams.{streams}
use Rattle.opgen_lanes.specs.Banks.{stream_words}
use Rattle.opgen_lanes.specs.Ready.{AreBanksOf}
use Rattle.opgen_lanes.proofs.drivers.settle.Given as goal

abbrev pub invariant-loop-place : goal.invariant-loop-place
invariant-loop-place l = record {
  same : (k : ℕ) → k < streams
      → settle l.design.drivers (drop l.place-index l.order) (stream_words l.banks.signals l.banks.ports k)
      ≡ settle l.design.drivers l.order (stream_words l.initial.banks.signals l.initial.banks.ports k);
  banks : AreBanksOf l.design l.banks.signals l.banks.ports;
}
