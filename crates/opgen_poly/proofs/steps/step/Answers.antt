use Rattle.std.proofs.Common.{◌≡◌, length, ◌∙◌, sym, subst, arith}
use Rattle.std.specs.Prelude.{All}
use Rattle.opgen_design.specs.Value.{IsWidth}
use Rattle.opgen_net.specs.Valid.{widths}
use Rattle.opgen_net.specs.WordRule.{IsThere, bits_from}
use Rattle.opgen_net.proofs.BitLists.{bits_from-there, length-bits_from}
use Rattle.opgen_poly.proofs.StepLaws.{heap-next}
use Rattle.opgen_poly.proofs.steps.step.Goals as goal

pub word-requires-clause-width : goal.word-requires-clause-width
word-requires-clause-width c =
    let bits = bits_from c.in_ok-net.field-0.node c.args.poly.now.input.width c.partial_width.result in
    let count : length bits ≡ c.partial_width.result =
    length-bits_from c.in_ok-net.field-0.node c.args.poly.now.input.width c.partial_width.result in
    subst (λ l. IsWidth (length l)) (sym (c.as_slice.ensures ∙ c.in_ok-bits.ensures))
    (omega (arith, count, c.partial_width.ensures.some), omega (arith, count, c.partial_width.ensures.few))

pub word-requires-clause-there : goal.word-requires-clause-there
word-requires-clause-there c =
    let p = c.args.poly.now in
    let ws = widths c.in_ok-net.field-0.net.nodes in
    let heap = heap-next p c.args.place c.requires.some in
    subst (All (IsThere ws)) (sym (c.as_slice.ensures ∙ c.in_ok-bits.ensures))
    (bits_from-there ws c.in_ok-net.field-0.node p.input.width c.partial_width.result
    (omega (arith, heap, c.in_ok-net.ensures.width, c.partial_width.ensures.value)))
