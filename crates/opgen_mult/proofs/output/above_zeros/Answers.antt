use Rattle.std.proofs.Common.{◌∙◌, length, ap, sym, subst, arith}
use Rattle.std.specs.Prelude.{All}
use Rattle.opgen_net.specs.Valid.{widths}
use Rattle.opgen_net.specs.WordRule.{IsThere, HasBits}
use Rattle.opgen_mult.proofs.AboveZeros.{given-count, given-there, given-above}
use Rattle.opgen_mult.proofs.output.above_zeros.Goals as goal

pub word-requires-clause-width : goal.word-requires-clause-width
word-requires-clause-width c =
    let is = c.as_slice.ensures ∙ c.in_ok-bits.ensures in
    let count = given-count c.args.node c.args.width c.args.zeros in
    (omega (arith, ap length is, count, c.requires.width.0), omega (arith, ap length is, count, c.requires.width.1))

pub word-requires-clause-there : goal.word-requires-clause-there
word-requires-clause-there c =
    let ws = widths c.args.net.now.nodes in
    let is = c.as_slice.ensures ∙ c.in_ok-bits.ensures in
    subst (All (IsThere ws)) (sym is) (given-there ws c.args.node c.args.width c.args.zeros c.requires.node)

pub returns-clause-width : goal.returns-clause-width
returns-clause-width c =
    let is = c.as_slice.ensures ∙ c.in_ok-bits.ensures in
    c.in_ok-shifted.ensures.width ∙ ap length is ∙ given-count c.args.node c.args.width c.args.zeros

pub returns-clause-shifted : goal.returns-clause-shifted
returns-clause-shifted c =
    let net = c.args.net.now in
    let is = c.as_slice.ensures ∙ c.in_ok-bits.ensures in
    let after = c.word.new.self.nodes in
    given-above net c.args.node c.args.width c.args.zeros after c.in_ok-shifted.shifted c.requires.net c.requires.node
    (subst (λ bits. HasBits net bits after c.in_ok-shifted.shifted) is c.in_ok-shifted.ensures.bits)
