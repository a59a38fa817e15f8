use Rattle.std.proofs.Common.{ℕ, ◌≡◌, ◌<◌, ◌++◌, if◌then◌else◌, take, drop}
use Rattle.opgen_streams.specs.Streams.{bit_in, streams, word_in}
use Rattle.opgen_lanes.proofs.words.write_where.Given as goal

abbrev pub invariant-loop-place : goal.invariant-loop-place
invariant-loop-place l = (k : ℕ) → k < streams
    → word_in (take l.place l.vectors) k ++ (if bit_in l.on k then drop l.place l.word else word_in (drop l.place l.vectors) k)
    ≡ (if bit_in l.on k then l.word else word_in l.initial.vectors k)
