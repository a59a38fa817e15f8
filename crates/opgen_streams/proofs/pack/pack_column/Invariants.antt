use Rattle.std.proofs.Common.{◌≡◌, ℕ, ◌+◌, ◌-◌, ◌*◌, ◌/◌, ◌%◌, ◌^◌, ◌<◌, ◌++◌, [], length, take, get_or}
use Rattle.std.specs.Int.{bit_at}
use Rattle.opgen_num.specs.Words.{word}
use Rattle.opgen_streams.specs.Streams.{streams, word_in}
use Rattle.opgen_streams.proofs.pack.pack_column.Given as goal

abbrev pub invariant-loop-place : goal.invariant-loop-place
invariant-loop-place l = record {
  packed : (k : ℕ) → k < streams → word_in (take l.place l.lanes) k
      ++ word (length l.fn.lanes - l.place) (get_or l.cells (l.start + k * l.distance) 0 / 2 ^ l.place)
      ≡ word (length l.fn.lanes) (get_or l.cells (l.start + k * l.distance) 0);
  words : 0 < l.place % 64 → (k j : ℕ) → k < streams → j < 64 → bit_at (get_or (get_or l.words (k % 64) []) (k / 64) 0) j
      ≡ bit_at (get_or l.cells (l.start + k * l.distance) 0) (64 * (l.place / 64) + j);
}
