use Rattle.std.proofs.Common.{ℕ, ◌≡◌, ◌<◌, drop}
use Rattle.opgen_runs.specs.Evaluate.{hand_all_on}
use Rattle.opgen_streams.specs.Streams.{streams}
use Rattle.opgen_lanes.specs.Banks.{stream_words, words_at}
use Rattle.opgen_lanes.specs.Ready.{AreBanksOf}
use Rattle.opgen_lanes.proofs.registers.hand_all_on.Given as goal

abbrev pub invariant-loop-place : goal.invariant-loop-place
invariant-loop-place l = record {
  same : (k : ℕ) → k < streams
      → hand_all_on l.design.enable (drop l.place l.design.drivers) (stream_words l.banks.signals l.banks.ports k) (words_at l.next k)
      ≡ hand_all_on l.design.enable l.design.drivers (stream_words l.banks.signals l.banks.ports k) (words_at l.initial.next k);
  next : AreBanksOf l.design l.next l.banks.ports;
}
