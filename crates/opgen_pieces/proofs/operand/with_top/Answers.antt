use Rattle.std.proofs.Common.{◌≡◌, ◌+◌, ◌*◌, ◌^◌, ◌≤◌, length, ap, ◌∙◌, arith}
use Rattle.std.proofs.Math.Nat.{pow-le-pow_right}
use Rattle.opgen_num.specs.Words.{digit, word, nat}
use Rattle.opgen_net.proofs.WordRuns.{word-with_top, top_below}
use Rattle.opgen_pieces.proofs.operand.with_top.Goals as goal

pub overflow_add-bits : goal.overflow_add-bits
overflow_add-bits c =
    let w = c.args.word in
    let same : c.weight.result ≡ digit c.args.bit * 2 ^ length w = c.weight.ensures
    ∙ ap (λ k. digit c.args.bit * 2 ^ k) c.width-width.ensures in
    let short : length w + 1 ≤ 128 = omega (arith, c.requires) in
    let most : 2 ^ (length w + 1) ≤ 2 ^ 128 = pow-le-pow_right {n = 2} (omega arith) {i = length w + 1} {j = 128} short in
    omega (arith, same, c.bits.ensures, top_below w c.args.bit, most)

pub returns : goal.returns
returns c =
    let w = c.args.word in
    let same : c.weight.result ≡ digit c.args.bit * 2 ^ length w = c.weight.ensures
    ∙ ap (λ k. digit c.args.bit * 2 ^ k) c.width-width.ensures in
    c.new.ensures
    ∙ ap (λ k. word (k + 1) (c.bits.result + c.weight.result)) c.width-width.ensures
    ∙ ap (λ n. word (length w + 1) (n + c.weight.result)) c.bits.ensures
    ∙ ap (λ n. word (length w + 1) (nat w + n)) same
    ∙ word-with_top w c.args.bit
