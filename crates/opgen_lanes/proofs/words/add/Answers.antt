use Rattle.std.proofs.Common.{[], ℕ, false, drop, get_or, ap, ◌+◌, ◌∙◌, arith}
use Rattle.std.proofs.lemmas.List.{drop_more}
use Rattle.opgen_num.specs.Words.{sum_with, xor}
use Rattle.opgen_streams.specs.Streams.{bit_in, word_in}
use Rattle.opgen_lanes.proofs.Bits.{summed}
use Rattle.opgen_lanes.proofs.words.add.Goals as goal

pub loop-place-preserved : goal.loop-place-preserved
loop-place-preserved c = λ k h.
    let first = c.loop-place.first in
    let second = c.args.second.now in
    let place = c.loop-place.place in
    let carried = bit_in c.loop-place.carried k in
    let left : ℕ → _ = λ p. word_in (drop p second) k in
    summed first place k c.different-in-loop-place.result carried (bit_in c.majority-carried.result k)
    (bit_in (get_or second place []) k) (left place) (left (place + 1))
    (sum_with false (word_in c.args.first.now k) (word_in second k)) (omega arith)
    (ap (λ vs. word_in vs k) (drop_more second place [] (omega arith)))
    (c.different-in-loop-place.ensures k h ∙ ap (λ b. xor b carried) (c.different.ensures k h))
    (c.majority-carried.ensures k h)
    (c.loop-place.invariant k h)
