use Rattle.std.proofs.Common.{[], ℕ, true, map, not, drop, get_or, ap, ◌+◌, ◌∙◌, arith}
use Rattle.std.proofs.lemmas.List.{drop_more}
use Rattle.opgen_num.specs.Words.{majority, sum_with, xor}
use Rattle.opgen_streams.specs.Streams.{bit_in, word_in}
use Rattle.opgen_lanes.proofs.Bits.{summed}
use Rattle.opgen_lanes.proofs.words.subtract.Goals as goal

pub loop-place-preserved : goal.loop-place-preserved
loop-place-preserved c = λ k h.
    let first = c.loop-place.first in
    let second = c.args.second.now in
    let place = c.loop-place.place in
    let one = bit_in (get_or first place []) k in
    let carried = bit_in c.loop-place.carried k in
    let left : ℕ → _ = λ p. map not (word_in (drop p second) k) in
    summed first place k c.different-in-loop-place.result carried (bit_in c.majority-carried.result k)
    (not (bit_in (get_or second place []) k)) (left place) (left (place + 1))
    (sum_with true (word_in c.args.first.now k) (map not (word_in second k))) (omega arith)
    (ap (λ vs. map not (word_in vs k)) (drop_more second place [] (omega arith)))
    (c.different-in-loop-place.ensures k h
    ∙ ap (λ b. xor b carried) (c.different.ensures k h ∙ ap (xor one) (c.turned-off.ensures k h)))
    (c.majority-carried.ensures k h ∙ ap (λ b. majority one b carried) (c.turned-off.ensures k h))
    (c.loop-place.invariant k h)
