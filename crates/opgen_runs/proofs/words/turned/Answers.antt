use Rattle.std.proofs.Common.{◌≡◌, ◌+◌, ◌-◌, ◌^◌, length, ap, ◌∙◌, arith}
use Rattle.std.proofs.lemmas.Nat.{pow_pos}
use Rattle.opgen_num.specs.Words.{word}
use Rattle.opgen_runs.proofs.WordOps.{word-not}
use Rattle.opgen_runs.proofs.words.turned.Goals as goal

pub returns : goal.returns
returns c =
    let a = c.args.word in
    let p : c.power.result ≡ 2 ^ length a = c.power.ensures.value ∙ ap (λ n. 2 ^ n) c.width-width.ensures in
    let h : c.power.result - 1 + 1 ≡ 2 ^ length a = omega (arith, p, pow_pos (length a)) in
    c.new.ensures ∙ ap (λ n. word n (c.power.result - 1 - c.bits.result)) c.width-width.ensures
    ∙ ap (λ n. word (length a) (c.power.result - 1 - n)) c.bits.ensures ∙ word-not a (c.power.result - 1) h
