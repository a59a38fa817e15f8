use Rattle.std.proofs.Common.{◌≡◌, List, length, sym, subst, rules}
use Rattle.std.specs.Prelude.{All}
use Rattle.opgen_design.specs.Value.{IsWidth}
use Rattle.opgen_net.specs.declared.net.Net.{Net}
use Rattle.opgen_net.specs.declared.word_bits.WordBit.{WordBit}
use Rattle.opgen_net.specs.Valid.{widths}
use Rattle.opgen_net.specs.WordRule.{IsThere}
use Rattle.opgen_divide.specs.Recipe.{numerator}
use Rattle.opgen_divide.proofs.Divisions.{numerator-wide}
use Rattle.opgen_divide.proofs.Steps.{numerator-there}
use Rattle.opgen_divide.proofs.Whole.{has_widths}
use Rattle.opgen_divide.proofs.divide_sizes.Goals as goal

pub divide-requires-in-Nonrestoring-clause-digits : goal.divide-requires-in-Nonrestoring-clause-digits
divide-requires-in-Nonrestoring-clause-digits c =
    let p = c.args.pair.now in
    let bits : c.as_slice-bits.result.now ≡ numerator p = search rules in
    subst (λ (bs : List WordBit). IsWidth (length bs)) (sym bits) (numerator-wide p (has_widths p c.requires.pair))

pub divide-requires-in-Nonrestoring-clause-numerator : goal.divide-requires-in-Nonrestoring-clause-numerator
divide-requires-in-Nonrestoring-clause-numerator c =
    let p = c.args.pair.now in
    let bits : c.as_slice-bits.result.now ≡ numerator p = search rules in
    subst (All (IsThere (widths c.args.net.now.nodes))) (sym bits)
    (subst (λ (n : Net). All (IsThere (widths n.nodes)) (numerator p)) (sym c.requires.net) (numerator-there p (has_widths p c.requires.pair)))
