use Rattle.std.proofs.Common.{suc, ap, ◌∙◌}
use Rattle.std.specs.Int.{bit_at}
use Rattle.opgen_streams.proofs.Gathered.{lowest_bit, upper_bit, word_moved}
use Rattle.opgen_streams.proofs.gather.with_bits.Goals as goal

pub returns-clause-lowest : goal.returns-clause-lowest
returns-clause-lowest c i lane =
    ap (λ n. bit_at n 0) (word_moved c.args.vector c.args.words c.args.place i c.fits-vector.0 c.fits-words.0 lane)
    ∙ lowest_bit _ _ _

pub returns-clause-above : goal.returns-clause-above
returns-clause-above c i j lane within =
    ap (λ n. bit_at n (suc j)) (word_moved c.args.vector c.args.words c.args.place i c.fits-vector.0 c.fits-words.0 lane)
    ∙ upper_bit _ _ _ j within
