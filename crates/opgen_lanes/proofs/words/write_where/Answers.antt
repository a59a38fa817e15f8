use Rattle.std.proofs.Common.{[], if◌then◌else◌, get_or, ap, ◌∙◌, arith}
use Rattle.opgen_streams.specs.Streams.{bit_in, word_in}
use Rattle.opgen_lanes.proofs.Bits.{placed}
use Rattle.opgen_lanes.proofs.words.write_where.Goals as goal

pub loop-place-preserved : goal.loop-place-preserved
loop-place-preserved c = λ k h.
    let vectors = c.loop-place.vectors in
    let place = c.loop-place.place in
    let on = bit_in c.args.on k in
    placed vectors c.args.word place k c.chosen.result on (if on then c.args.word else word_in c.args.vectors.now k)
    (omega arith) (omega (arith, c.requires.same))
    (c.chosen.ensures k h
    ∙ ap (λ b. if on then b else bit_in (get_or vectors place []) k) (c.splat.ensures k h ∙ c.bit_at.ensures))
    (c.loop-place.invariant k h)
