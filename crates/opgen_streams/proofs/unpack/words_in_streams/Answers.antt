use Rattle.std.proofs.Common.{refl, arith}
use Rattle.std.proofs.lemmas.List.{length-set}
use Rattle.opgen_num.specs.Words.{nat}
use Rattle.opgen_streams.specs.Streams.{word_in}
use Rattle.opgen_streams.proofs.Gathered.{row_placed}
use Rattle.opgen_streams.proofs.RowsInStreams.{number_of_stream}
use Rattle.opgen_streams.proofs.unpack.words_in_streams.Goals as goal

pub loop-row-init : goal.loop-row-init
loop-row-init c = record { all = refl; numbers = λ k stream none. absurd (omega (arith, none)) }

pub loop-row-preserved : goal.loop-row-preserved
loop-row-preserved c = record {
  all = omega (arith, length-set c.loop-row.words c.loop-row.row c.vector_at.result, c.loop-row.invariant.all);
  numbers = row_placed (λ n. n) (λ k. nat (word_in c.args.lanes.now k)) c.loop-row.words c.vector_at.result c.loop-row.row
      c.loop-row.invariant.all c.loop-row-test.true c.loop-row.invariant.numbers
      (λ k stream here. number_of_stream c.args.lanes.now c.vector_at.result k c.loop-row.row c.requires stream here c.vector_at.ensures.bits
      c.vector_at.ensures.small);
}

pub returns : goal.returns
returns c k stream = c.loop-row.invariant.numbers k stream (omega arith)
