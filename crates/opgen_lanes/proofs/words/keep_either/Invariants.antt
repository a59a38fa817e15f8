use Rattle.std.proofs.Common.{ℕ, ◌≡◌, ◌<◌, ◌++◌, take, drop, ◌||◌}
use Rattle.opgen_num.specs.Words.{pairwise}
use Rattle.opgen_streams.specs.Streams.{streams, word_in}
use Rattle.opgen_lanes.proofs.words.keep_either.Given as goal

abbrev pub invariant-loop-place : goal.invariant-loop-place
invariant-loop-place l = (k : ℕ) → k < streams
    → word_in (take l.place l.first) k ++ pairwise ◌||◌ (word_in (drop l.place l.first) k) (word_in (drop l.place l.second) k)
    ≡ pairwise ◌||◌ (word_in l.initial.first k) (word_in l.second k)
