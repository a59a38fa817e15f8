use Rattle.std.proofs.Common.{◌<◌, ◌^◌, length, ap, sym, ◌∙◌, subst}
use Rattle.std.specs.Prelude.{bit_or}
use Rattle.std.proofs.lemmas.Nat.{or_lt}
use Rattle.opgen_num.specs.Words.{nat, word}
use Rattle.opgen_num.proofs.Words.{nat-below}
use Rattle.opgen_runs.proofs.WordOps.{word-or}
use Rattle.opgen_runs.proofs.words.either.Goals as goal

pub returns : goal.returns
returns c =
    let a = c.args.first in
    let b = c.args.second in
    c.new.ensures ∙ ap (λ n. word n (bit_or c.bits.result c.bits-2.result)) c.width.ensures
    ∙ ap (λ n. word (length a) (bit_or n c.bits-2.result)) c.bits.ensures ∙ ap (λ n. word (length a) (bit_or (nat a) n)) c.bits-2.ensures
    ∙ word-or a b c.requires

pub new-requires : goal.new-requires
new-requires c =
    let a = c.args.first in
    let b = c.args.second in
    let h : nat a < 2 ^ length a = nat-below a in
    let k : nat b < 2 ^ length a = subst (λ n. nat b < 2 ^ n) (sym c.requires) (nat-below b) in
    subst (λ n. bit_or c.bits.result c.bits-2.result < 2 ^ n) (sym c.width.ensures)
    (subst (λ n. bit_or n c.bits-2.result < 2 ^ length a) (sym c.bits.ensures)
    (subst (λ n. bit_or (nat a) n < 2 ^ length a) (sym c.bits-2.ensures) (or_lt (length a) (nat a) (nat b) h k)))
