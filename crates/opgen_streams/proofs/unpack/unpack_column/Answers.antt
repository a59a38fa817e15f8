use Rattle.std.proofs.Common.{◌≡◌, ◌+◌, ◌*◌, ◌/◌, ◌%◌, ◌^◌, [], take, drop, get_or, ap, ◌∙◌, arith}
use Rattle.opgen_num.specs.Words.{nat}
use Rattle.opgen_streams.specs.Streams.{word_in}
use Rattle.opgen_streams.proofs.Places.{next_place}
use Rattle.opgen_streams.proofs.RowsInStreams.{nat-parts}
use Rattle.opgen_streams.proofs.Unpacked.{none_put, one_put}
use Rattle.opgen_streams.proofs.unpack.unpack_column.Goals as goal

pub loop-stream-init : goal.loop-stream-init
loop-stream-init c = record {
  place = omega arith;
  put = none_put c.args.start c.args.distance (λ k. nat (word_in c.args.lanes.now k)) c.args.cells.now;
}

pub loop-stream-preserved : goal.loop-stream-preserved
loop-stream-preserved c =
    let lanes = c.args.lanes.now in
    let k = c.loop-stream.stream in
    let most = c.min.result in
    let now = c.loop-stream.invariant in
    let low : get_or (get_or c.words_in_streams-low.result (k % 64) []) (k / 64) 0 ≡ nat (word_in (take most lanes) k)
    = c.words_in_streams-low.ensures k (omega arith) ∙ ap (λ ls. nat (word_in ls k)) c.split_at.ensures.front in
    let high : get_or (get_or c.words_in_streams-high.result (k % 64) []) (k / 64) 0 ≡ nat (word_in (drop most lanes) k)
    = c.words_in_streams-high.ensures k (omega arith) ∙ ap (λ ls. nat (word_in ls k)) c.split_at.ensures.back in
    let number : c.number_of_stream.result ≡ nat (word_in lanes k)
    = c.number_of_stream.ensures
    ∙ ap (λ n. n + 2 ^ 64 * get_or (get_or c.words_in_streams-high.result (k % 64) []) (k / 64) 0) low
    ∙ ap (λ n. nat (word_in (take most lanes) k) + 2 ^ 64 * n) high
    ∙ nat-parts lanes k most c.min.ensures in
    record {
      place = c.saturating_add-place.ensures ∙ next_place c.loop-stream.place c.args.start k c.args.distance now.place;
      put = rw c.put.ensures (one_put c.args.start c.args.distance k c.loop-stream.place c.number_of_stream.result (λ k. nat (word_in lanes k))
          c.args.cells.now c.loop-stream.cells c.requires.distance (omega arith) now.place number now.put);
    }
