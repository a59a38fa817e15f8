use Rattle.std.proofs.Common.{◌≡◌, ℕ, ◌/◌, ◌%◌, ◌<◌, [], length, get_or}
use Rattle.opgen_num.specs.Words.{nat}
use Rattle.opgen_streams.specs.Streams.{streams, word_in}
use Rattle.opgen_streams.proofs.unpack.words_in_streams.Given as goal

abbrev pub invariant-loop-row : goal.invariant-loop-row
invariant-loop-row l = record {
  all : length l.words ≡ 64;
  numbers : (k : ℕ) → k < streams → k % 64 < l.row → get_or (get_or l.words (k % 64) []) (k / 64) 0 ≡ nat (word_in l.lanes k);
}
