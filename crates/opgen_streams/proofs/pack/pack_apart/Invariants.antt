use Rattle.std.proofs.Common.{◌≡◌, ℕ, ◌+◌, ◌-◌, ◌*◌, ◌^◌, ◌<◌, ◌++◌, length, take, drop, sum, min}
use Rattle.opgen_num.specs.Words.{words_of}
use Rattle.opgen_streams.specs.Rows.{row_with_zeros}
use Rattle.opgen_streams.specs.Streams.{streams, word_in}
use Rattle.opgen_streams.proofs.RowsInStreams.{bits_of}
use Rattle.opgen_streams.proofs.pack.pack_apart.Given as goal

abbrev pub invariant-loop-width : goal.invariant-loop-width
invariant-loop-width l = record {
  place : l.place ≡ min (l.first * length l.widths + l.width-index) (2 ^ 64 - 1);
  lanes : l.start + sum (drop l.width-index l.widths) ≡ length l.lanes;
  packed : (k : ℕ) → k < streams → take l.start (word_in l.lanes k)
      ++ bits_of (words_of (drop l.width-index l.widths) (drop l.width-index (row_with_zeros (length l.widths) (l.first + k * l.apart) l.cells)))
      ≡ bits_of (words_of l.widths (row_with_zeros (length l.widths) (l.first + k * l.apart) l.cells));
}
