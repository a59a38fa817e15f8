use Rattle.std.proofs.Common.{◌≡◌, ℕ, List, ◌∷◌, length, sym, ap, ◌∙◌, subst, rules}
use Rattle.std.specs.Prelude.{All}
use Rattle.opgen_design.specs.Value.{IsWidth}
use Rattle.opgen_net.specs.declared.net.Net.{Net}
use Rattle.opgen_net.specs.declared.word_bits.WordBit.{WordBit}
use Rattle.opgen_net.specs.declared.word_bits.WordBit.TheVariants.{Zero}
use Rattle.opgen_net.specs.Valid.{widths}
use Rattle.opgen_net.specs.WordRule.{IsThere, bits_from}
use Rattle.opgen_divide.specs.Recipe.{with_magnitudes}
use Rattle.opgen_divide.proofs.Steps.{bits-wide, bits-there}
use Rattle.opgen_divide.proofs.Whole.{has_widths}
use Rattle.opgen_divide.proofs.restoring.divisor.Goals as goal

pub word-requires-clause-width : goal.word-requires-clause-width
word-requires-clause-width c =
    let p = c.args.pair.now in
    let given : c.as_slice.result.now ≡ Zero ∷ Zero ∷ bits_from c.args.divisor 0 p.b.width = search rules in
    let bits : c.as_slice.result.now ≡ Zero ∷ Zero ∷ bits_from (with_magnitudes p).divisor 0 p.b.width =
    given ∙ ap (λ (n : ℕ). Zero ∷ Zero ∷ bits_from n 0 p.b.width) c.requires.divisor in
    subst (λ (bs : List WordBit). IsWidth (length bs)) (sym bits) (bits-wide p (has_widths p c.requires.pair))

pub word-requires-clause-there : goal.word-requires-clause-there
word-requires-clause-there c =
    let p = c.args.pair.now in
    let given : c.as_slice.result.now ≡ Zero ∷ Zero ∷ bits_from c.args.divisor 0 p.b.width = search rules in
    let bits : c.as_slice.result.now ≡ Zero ∷ Zero ∷ bits_from (with_magnitudes p).divisor 0 p.b.width =
    given ∙ ap (λ (n : ℕ). Zero ∷ Zero ∷ bits_from n 0 p.b.width) c.requires.divisor in
    subst (All (IsThere (widths c.args.net.now.nodes))) (sym bits)
    (subst (λ (n : Net). All (IsThere (widths n.nodes)) (Zero ∷ Zero ∷ bits_from (with_magnitudes p).divisor 0 p.b.width)) (sym c.requires.net)
    (bits-there p (has_widths p c.requires.pair)))
