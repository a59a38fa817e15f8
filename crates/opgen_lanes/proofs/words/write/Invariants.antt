use Rattle.std.proofs.Common.{ℕ, ◌≡◌, ◌<◌, ◌++◌, take, drop}
use Rattle.opgen_streams.specs.Streams.{streams, word_in}
use Rattle.opgen_lanes.proofs.words.write.Given as goal

abbrev pub invariant-loop-place : goal.invariant-loop-place
invariant-loop-place l = (k : ℕ) → k < streams → word_in (take l.place l.vectors) k ++ drop l.place l.word ≡ l.word
