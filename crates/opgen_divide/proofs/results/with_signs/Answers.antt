use Rattle.std.proofs.Common.{◌≡◌, ◌+◌, ◌≤◌, List, length, sym, ap, ◌∙◌, subst, arith}
use Rattle.std.specs.Prelude.{All}
use Rattle.opgen_num.specs.declared.format.TheConstants.{MAX_WIDTH}
use Rattle.opgen_net.specs.declared.net.Net.{Net}
use Rattle.opgen_net.specs.declared.word_bits.WordBit.{WordBit}
use Rattle.opgen_net.specs.Valid.{widths}
use Rattle.opgen_net.specs.WordRule.{IsThere}
use Rattle.opgen_net.proofs.Grown.{grown-all_there}
use Rattle.opgen_kinds.specs.Pair.{sign_bit}
use Rattle.opgen_divide.specs.Inputs.{HasInputs}
use Rattle.opgen_divide.specs.Recipe.{with_quotient}
use Rattle.opgen_divide.proofs.Finished.{quotient-later, still-inputs}
use Rattle.opgen_divide.proofs.results.with_signs.Goals as goal

pub signed_quotient-requires-clause-few : goal.signed_quotient-requires-clause-few
signed_quotient-requires-clause-few c =
    let one : sign_bit c.args.pair.now.a.signed ≡ 1 = ap sign_bit c.if-not-pair.false in
    omega (arith, c.requires.few, one, ap length c.as_slice.ensures)

pub signed_remainder-requires-clause-inputs : goal.signed_remainder-requires-clause-inputs
signed_remainder-requires-clause-inputs c =
    let p = c.args.pair.now in
    let r = c.requires in
    let net = c.args.net.now in
    let digits = c.args.digits.known in
    let one : sign_bit p.a.signed ≡ 1 = ap sign_bit c.if-not-pair.false in
    let few : length digits + 1 ≤ MAX_WIDTH = omega (arith, r.few, one) in
    let made : c.signed_quotient.new.net ≡ (with_quotient p net digits).net =
    c.in_ok-known.ensures.ok ∙ ap (λ (ds : List WordBit). (with_quotient p net ds).net) c.as_slice.ensures in
    subst (HasInputs p) (sym made)
    (still-inputs p net (with_quotient p net digits).net (quotient-later p net digits r.net r.inputs few r.results.digits) r.inputs)

pub signed_remainder-requires-clause-there : goal.signed_remainder-requires-clause-there
signed_remainder-requires-clause-there c =
    let p = c.args.pair.now in
    let r = c.requires in
    let net = c.args.net.now in
    let digits = c.args.digits.known in
    let rest = c.args.digits.rest in
    let one : sign_bit p.a.signed ≡ 1 = ap sign_bit c.if-not-pair.false in
    let few : length digits + 1 ≤ MAX_WIDTH = omega (arith, r.few, one) in
    let made : c.signed_quotient.new.net ≡ (with_quotient p net digits).net =
    c.in_ok-known.ensures.ok ∙ ap (λ (ds : List WordBit). (with_quotient p net ds).net) c.as_slice.ensures in
    let later = quotient-later p net digits r.net r.inputs few r.results.digits in
    subst (All (IsThere (widths c.signed_quotient.new.net.nodes))) (sym c.as_slice-then-pair.ensures)
    (subst (λ (n : Net). All (IsThere (widths n.nodes)) rest) (sym made)
    (grown-all_there net (with_quotient p net digits).net later.grown rest r.results.rest))
