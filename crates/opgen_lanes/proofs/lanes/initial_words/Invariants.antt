use Rattle.std.proofs.Common.{ℕ, ◌≡◌, ◌<◌, take, map}
use Rattle.std.specs.Prelude.{unwrap_or}
use Rattle.opgen_num.specs.Words.{word}
use Rattle.opgen_streams.specs.Streams.{streams}
use Rattle.opgen_lanes.specs.Banks.{IsBank, widths_of, words_at}
use Rattle.opgen_lanes.proofs.lanes.initial_words.Given as goal

abbrev pub invariant-loop-place : goal.invariant-loop-place
invariant-loop-place l = record {
  bank : IsBank l.bank;
  widths : widths_of l.bank ≡ map (λ s. s.width) l.signals;
  words : (k : ℕ) → k < streams
      → take l.place (words_at l.bank k) ≡ map (λ s. unwrap_or s.initial (word s.width 0)) (take l.place l.signals);
}
