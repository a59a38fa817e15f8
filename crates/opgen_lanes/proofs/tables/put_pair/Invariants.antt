use Rattle.std.proofs.Common.{ℕ, ◌≡◌, ◌<◌, ◌++◌, if◌then◌else◌, true, take, drop}
use Rattle.opgen_num.specs.Words.{nat}
use Rattle.opgen_streams.specs.Streams.{bit_in, streams, word_in}
use Rattle.opgen_lanes.proofs.tables.put_pair.Given as goal

abbrev pub invariant-loop-place : goal.invariant-loop-place
invariant-loop-place l = record {
  ones : l.ones ≡ nat (drop l.place l.fn.first);
  twos : l.twos ≡ nat (drop l.place l.fn.second);
  zeros : (k : ℕ) → k < streams → bit_in l.fn.here k ≡ true → nat (word_in (drop l.place l.out) k) ≡ 0;
  words : (k : ℕ) → k < streams
      → word_in (take l.place l.out) k
      ++ (if bit_in l.fn.here k then (if bit_in l.fn.low k then drop l.place l.fn.second else drop l.place l.fn.first) else word_in (drop l.place l.out) k)
      ≡ (if bit_in l.fn.here k then (if bit_in l.fn.low k then l.fn.second else l.fn.first) else word_in l.initial.out k);
}
