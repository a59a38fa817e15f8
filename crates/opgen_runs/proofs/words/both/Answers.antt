use Rattle.std.proofs.Common.{length, ap, ◌∙◌}
use Rattle.std.specs.Prelude.{bit_and}
use Rattle.opgen_num.specs.Words.{nat, word}
use Rattle.opgen_runs.proofs.WordOps.{word-and}
use Rattle.opgen_runs.proofs.words.both.Goals as goal

pub returns : goal.returns
returns c =
    let a = c.args.first in
    let b = c.args.second in
    c.new.ensures ∙ ap (λ n. word n (bit_and c.bits.result c.bits-2.result)) c.width.ensures
    ∙ ap (λ n. word (length a) (bit_and n c.bits-2.result)) c.bits.ensures ∙ ap (λ n. word (length a) (bit_and (nat a) n)) c.bits-2.ensures
    ∙ word-and a b c.requires
