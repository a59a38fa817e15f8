use Rattle.std.proofs.Common.{◌≡◌, ℕ, ◌+◌, ◌-◌, ◌*◌, ◌/◌, ◌%◌, ◌^◌, ◌<◌, [], length, get_or, min}
use Rattle.std.specs.Int.{bit_at}
use Rattle.opgen_streams.specs.Streams.{streams}
use Rattle.opgen_streams.proofs.pack.words_of_column.Given as goal

abbrev pub invariant-loop-row : goal.invariant-loop-row
invariant-loop-row l = record {
  all : length l.words ≡ 64;
  place : l.place ≡ min (l.start + l.row * l.distance) (2 ^ 64 - 1);
  bits : (k j : ℕ) → k < streams → k % 64 < l.row → j < 64 → bit_at (get_or (get_or l.words (k % 64) []) (k / 64) 0) j
      ≡ bit_at (get_or l.cells (l.start + k * l.distance) 0) (64 * l.index + j);
}
