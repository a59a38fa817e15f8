use Rattle.std.proofs.Common.{◌≡◌, ◌+◌, ◌-◌, ◌*◌, ◌^◌, min}
use Rattle.opgen_num.specs.Words.{nat}
use Rattle.opgen_streams.specs.Streams.{word_in}
use Rattle.opgen_streams.proofs.Unpacked.{ArePut}
use Rattle.opgen_streams.proofs.unpack.unpack_column.Given as goal

abbrev pub invariant-loop-stream : goal.invariant-loop-stream
invariant-loop-stream l = record {
  place : l.place ≡ min (l.start + l.stream * l.distance) (2 ^ 64 - 1);
  put : ArePut l.start l.distance l.stream (λ k. nat (word_in l.lanes k)) l.fn.cells l.cells;
}
