use Rattle.std.proofs.Common.{ℕ, ◌≡◌, ◌<◌, ◌&&◌, drop}
use Rattle.std.specs.Prelude.{nat_eq}
use Rattle.opgen_num.specs.Words.{nat}
use Rattle.opgen_streams.specs.Streams.{bit_in, streams, word_in}
use Rattle.opgen_lanes.proofs.words.equal.Given as goal

abbrev pub invariant-loop-place : goal.invariant-loop-place
invariant-loop-place l = (k : ℕ) → k < streams
    → bit_in l.same k && nat_eq (nat (drop l.place l.word)) (nat (word_in (drop l.place l.vectors) k))
    ≡ nat_eq (nat l.word) (nat (word_in l.vectors k))
