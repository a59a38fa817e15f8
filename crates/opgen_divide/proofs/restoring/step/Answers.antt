use Rattle.std.proofs.Common.{◌≡◌, ℕ, ◌+◌, List, [], ◌∷◌, ◌++◌, length, length-append, sym, ap, ◌∙◌, subst, arith, rules}
use Rattle.opgen_net.specs.declared.net.Net.{Net}
use Rattle.opgen_net.specs.declared.word_bits.WordBit.{WordBit}
use Rattle.opgen_net.specs.declared.word_bits.WordBit.TheVariants.{Zero}
use Rattle.opgen_net.specs.Placed.{with_bits}
use Rattle.opgen_digits.specs.Digit.{AreOperands}
use Rattle.opgen_divide.proofs.Steps.{operands-of}
use Rattle.opgen_divide.proofs.restoring.step.Goals as goal

pub try_digit-requires-clause-operands : goal.try_digit-requires-clause-operands
try_digit-requires-clause-operands c =
    let net = c.args.net.now in
    let w = c.args.divisor.width in
    let divisor = c.args.divisor.node in
    let rest = c.args.digits.now.rest in
    let given : List WordBit = Zero ∷ (rest ++ c.args.bit ∷ []) in
    let bits : c.as_slice-2.result.now ≡ given = search rules in
    let long : length given ≡ w + 2 = omega (arith, length-append rest (c.args.bit ∷ []), c.requires.rest) in
    let after : c.word.new.self ≡ (with_bits net given).net =
    c.in_ok-minuend.ensures.ok ∙ ap (λ (bs : List WordBit). (with_bits net bs).net) bits in
    let place : c.in_ok-minuend.minuend ≡ (with_bits net given).place =
    c.in_ok-minuend.ensures.place ∙ ap (λ (bs : List WordBit). (with_bits net bs).place) bits in
    subst (λ (n : Net). AreOperands w n c.in_ok-minuend.minuend divisor) (sym after)
    (subst (λ (a : ℕ). AreOperands w (with_bits net given).net a divisor) (sym place)
    (operands-of w net given divisor c.requires.net c.requires.some c.requires.few long c.requires.there c.requires.divisor))
