use Rattle.std.proofs.Common.{ℕ, ◌≡◌, ◌<◌, ◌++◌, true, map, not, take, drop}
use Rattle.opgen_num.specs.Words.{sum_with}
use Rattle.opgen_streams.specs.Streams.{bit_in, streams, word_in}
use Rattle.opgen_lanes.proofs.words.subtract.Given as goal

abbrev pub invariant-loop-place : goal.invariant-loop-place
invariant-loop-place l = (k : ℕ) → k < streams
    → word_in (take l.place l.first) k
    ++ sum_with (bit_in l.carried k) (word_in (drop l.place l.first) k) (map not (word_in (drop l.place l.second) k))
    ≡ sum_with true (word_in l.initial.first k) (map not (word_in l.second k))
