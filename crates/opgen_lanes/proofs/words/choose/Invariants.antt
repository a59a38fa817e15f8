use Rattle.std.proofs.Common.{ℕ, ◌≡◌, ◌<◌, ◌++◌, if◌then◌else◌, take, drop}
use Rattle.opgen_streams.specs.Streams.{bit_in, streams, word_in}
use Rattle.opgen_lanes.proofs.words.choose.Given as goal

abbrev pub invariant-loop-place : goal.invariant-loop-place
invariant-loop-place l = (k : ℕ) → k < streams
    → word_in (take l.place l.first) k
    ++ (if bit_in l.on k then word_in (drop l.place l.first) k else word_in (drop l.place l.second) k)
    ≡ (if bit_in l.on k then word_in l.initial.first k else word_in l.second k)
