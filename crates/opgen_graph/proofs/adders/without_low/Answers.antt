use Rattle.std.proofs.Common.{◌≡◌, length, sym, ap, ◌∙◌, subst, arith, rules}
use Rattle.std.specs.Prelude.{All}
use Rattle.opgen_design.specs.Value.{IsWidth}
use Rattle.opgen_net.specs.Valid.{widths}
use Rattle.opgen_net.specs.WordRule.{IsThere, bits_from}
use Rattle.opgen_net.proofs.BitLists.{length-bits_from, bits_from-there}
use Rattle.opgen_graph.proofs.adders.without_low.Goals as goal

pub word-requires-clause-width : goal.word-requires-clause-width
word-requires-clause-width c =
    let a = c.args in
    let bits : c.as_slice.result.now ≡ bits_from a.sum a.low a.width = search rules in
    let wide : IsWidth a.width = (c.requires.some, omega (arith, c.requires.most)) in
    subst IsWidth (sym (ap length bits ∙ length-bits_from a.sum a.low a.width)) wide

pub word-requires-clause-there : goal.word-requires-clause-there
word-requires-clause-there c =
    let a = c.args in
    let ws = widths a.net.now.nodes in
    let bits : c.as_slice.result.now ≡ bits_from a.sum a.low a.width = search rules in
    subst (All (IsThere ws)) (sym bits) (bits_from-there ws a.sum a.low a.width (omega (arith, c.requires.sum)))
