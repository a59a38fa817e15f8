use Rattle.std.proofs.Common.{◌≡◌, ◌+◌, ◌-◌, ◌/◌, ◌%◌, ◌^◌, ◌≤◌, length, drop, ap, ◌∙◌, arith}
use Rattle.std.proofs.lemmas.List.{length-drop}
use Rattle.opgen_num.specs.Words.{nat, word}
use Rattle.opgen_num.proofs.Cuts.{nat-drop}
use Rattle.opgen_runs.proofs.WordOps.{word-take, word-mod}
use Rattle.opgen_runs.proofs.words.cut.Goals as goal

pub returns : goal.returns
returns c =
    let v = c.args.word in
    let low = c.args.low in
    let w : c.args.high - low + 1 ≡ c.args.high + 1 - low = omega (arith, c.requires.order) in
    let n : c.bits.result / 2 ^ low ≡ nat (drop low v) = ap (λ x. x / 2 ^ low) c.bits.ensures ∙ nat-drop low v in
    let fits : c.args.high + 1 - low ≤ length (drop low v) = omega (arith, length-drop low v, c.requires.within, c.requires.order) in
    c.new.ensures ∙ ap (λ x. word (c.args.high - low + 1) (c.bits.result / 2 ^ low % x)) c.power.ensures.value
    ∙ word-mod (c.args.high - low + 1) (c.bits.result / 2 ^ low)
    ∙ ap (word (c.args.high - low + 1)) n ∙ ap (λ k. word k (nat (drop low v))) w ∙ word-take (c.args.high + 1 - low) (drop low v) fits
