use Rattle.std.proofs.Common.{[], ◌&&◌, eqb, get_or, not, ap, ◌∙◌, arith}
use Rattle.opgen_num.specs.Words.{xor, nat}
use Rattle.opgen_streams.specs.Streams.{bit_in, word_in}
use Rattle.opgen_lanes.proofs.Bits.{compared}
use Rattle.opgen_lanes.proofs.words.equal.Goals as goal

pub loop-place-preserved : goal.loop-place-preserved
loop-place-preserved c = λ k h.
    let vectors = c.args.vectors.now in
    let place = c.loop-place.place in
    let same = bit_in c.loop-place.same k in
    let bit = bit_in (get_or vectors place []) k in
    compared c.args.word vectors place k same (bit_in c.both-same.result k) (eqb (nat c.args.word) (nat (word_in vectors k)))
    (omega (arith, c.requires.same)) (omega arith)
    (c.both-same.ensures k h
    ∙ ap (λ b. same && b)
    (c.different.ensures k h ∙ ap (λ b. xor b bit) (c.splat-turn.ensures k h ∙ ap not c.bit_at.ensures)))
    (c.loop-place.invariant k h)
