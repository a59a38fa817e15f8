use Rattle.std.proofs.Common.{◌≡◌, ◌+◌, drop, length, sym, ap, ◌∙◌, subst, arith, rules}
use Rattle.std.specs.Prelude.{All}
use Rattle.opgen_design.specs.Value.{IsWidth}
use Rattle.opgen_net.specs.Valid.{widths}
use Rattle.opgen_net.specs.WordRule.{IsThere}
use Rattle.opgen_graph.specs.Recipe.{extended}
use Rattle.opgen_graph.proofs.Operands.{length-extended}
use Rattle.opgen_graph.proofs.Sums.{given-wide, given-there}
use Rattle.opgen_graph.proofs.multiples.operand.Goals as goal

pub split_at-requires : goal.split_at-requires
split_at-requires c =
    let bits : c.as_slice.result.now ≡ extended c.args.signed c.args.zeros c.args.width c.args.of = search rules in
    omega (arith, ap length bits, length-extended c.args.signed c.args.zeros c.args.width c.args.of)

pub word-requires-clause-width : goal.word-requires-clause-width
word-requires-clause-width c =
    let a = c.args in
    let bits : c.as_slice.result.now ≡ extended a.signed a.zeros a.width a.of = search rules in
    subst (λ bs. IsWidth (length bs)) (sym (c.split_at.ensures.back ∙ ap (drop (a.of.width + a.zeros)) bits))
    (given-wide a.signed a.zeros a.width a.net.now a.of c.requires.net c.requires.width c.requires.node)

pub word-requires-clause-there : goal.word-requires-clause-there
word-requires-clause-there c =
    let a = c.args in
    let bits : c.as_slice.result.now ≡ extended a.signed a.zeros a.width a.of = search rules in
    subst (All (IsThere (widths a.net.now.nodes))) (sym (c.split_at.ensures.back ∙ ap (drop (a.of.width + a.zeros)) bits))
    (given-there a.signed a.zeros a.width a.net.now a.of c.requires.net c.requires.width c.requires.node)
