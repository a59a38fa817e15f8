use Rattle.std.proofs.Common.{ℕ, ◌≡◌, ◌<◌, ◌++◌, map, not, take, drop}
use Rattle.opgen_streams.specs.Streams.{streams, word_in}
use Rattle.opgen_lanes.proofs.words.turn.Given as goal

abbrev pub invariant-loop-place : goal.invariant-loop-place
invariant-loop-place l = (k : ℕ) → k < streams
    → word_in (take l.place l.word) k ++ map not (word_in (drop l.place l.word) k) ≡ map not (word_in l.initial.word k)
