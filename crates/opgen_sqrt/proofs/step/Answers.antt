use Rattle.std.proofs.Common.{◌≡◌, ℕ, ◌+◌, ◌≤◌, List, [], ◌∷◌, ◌++◌, length, length-append, sym, ap, ◌∙◌, subst, arith, rules}
use Rattle.std.specs.Prelude.{All}
use Rattle.opgen_num.specs.declared.format.TheConstants.{MAX_WIDTH}
use Rattle.opgen_net.specs.declared.net.Net.{Net}
use Rattle.opgen_net.specs.declared.word_bits.WordBit.{WordBit}
use Rattle.opgen_net.specs.declared.word_bits.WordBit.TheVariants.{Zero, One}
use Rattle.opgen_net.specs.Valid.{IsValid, widths}
use Rattle.opgen_net.specs.WordRule.{IsThere}
use Rattle.opgen_net.proofs.Grown.{grown-all_there}
use Rattle.opgen_net.specs.Placed.{with_bits}
use Rattle.opgen_digits.specs.Digit.{AreOperands}
use Rattle.opgen_sqrt.proofs.Steps.{taken-there, first-later, operands-of}
use Rattle.opgen_sqrt.proofs.step.Goals as goal

abbrev raised : (rest : List WordBit) (high low : WordBit) → List WordBit
raised rest high low = Zero ∷ (rest ++ high ∷ low ∷ [])

abbrev taken : (known : List WordBit) → List WordBit
taken known = Zero ∷ Zero ∷ (known ++ Zero ∷ One ∷ [])

raised-length : (rest : List WordBit) (high low : WordBit) (n : ℕ) → length rest + 1 ≡ n → length (raised rest high low) ≡ n + 2
raised-length rest high low n h = omega (arith, length-append rest (high ∷ low ∷ []), h)

-- the known digits stand beside the word of the minuend
digits-there : (net : Net) (given known : List WordBit) (rest : ℕ) → IsValid net → rest + 2 ≤ MAX_WIDTH → length given ≡ rest + 2
    → All (IsThere (widths net.nodes)) given
    → All (IsThere (widths net.nodes)) known → All (IsThere (widths (with_bits net given).net.nodes)) (taken known)
digits-there net given known rest valid few long there h =
    taken-there (widths (with_bits net given).net.nodes) known
    (grown-all_there net (with_bits net given).net (first-later rest net given valid few long there).grown known h)

pub word-requires-2-clause-there : goal.word-requires-2-clause-there
word-requires-2-clause-there c =
    let net = c.args.net.now in
    let digits = c.args.digits.now in
    let given : List WordBit = raised digits.rest c.args.pair.high c.args.pair.low in
    let bits : c.as_slice-2.result.now ≡ given = search rules in
    let more : c.as_slice-4.result.now ≡ taken digits.known = search rules in
    let after : c.word.new.self ≡ (with_bits net given).net =
    c.in_ok-a.ensures.ok ∙ ap (λ (bs : List WordBit). (with_bits net bs).net) bits in
    let long = raised-length digits.rest c.args.pair.high c.args.pair.low c.args.rest c.requires.rest in
    subst (All (IsThere (widths c.word.new.self.nodes))) (sym more)
    (subst (λ (n : Net). All (IsThere (widths n.nodes)) (taken digits.known)) (sym after)
    (digits-there net given digits.known c.args.rest c.requires.net c.requires.few long c.requires.there c.requires.digits))

pub try_digit-requires-clause-operands : goal.try_digit-requires-clause-operands
try_digit-requires-clause-operands c =
    let net = c.args.net.now in
    let rest = c.args.rest in
    let digits = c.args.digits.now in
    let given : List WordBit = raised digits.rest c.args.pair.high c.args.pair.low in
    let less : List WordBit = taken digits.known in
    let bits : c.as_slice-2.result.now ≡ given = search rules in
    let more : c.as_slice-4.result.now ≡ less = search rules in
    let long = raised-length digits.rest c.args.pair.high c.args.pair.low rest c.requires.rest in
    let same : length less ≡ rest + 2 = omega (arith, length-append digits.known (Zero ∷ One ∷ []), c.requires.known) in
    let some : 1 ≤ rest = omega (arith, c.requires.some) in
    let first : Net = (with_bits net given).net in
    let after : c.word.new.self ≡ first = c.in_ok-a.ensures.ok ∙ ap (λ (bs : List WordBit). (with_bits net bs).net) bits in
    let place : c.in_ok-a.a ≡ (with_bits net given).place =
    c.in_ok-a.ensures.place ∙ ap (λ (bs : List WordBit). (with_bits net bs).place) bits in
    let after_both : c.word-2.new.self ≡ (with_bits first less).net =
    c.in_ok-b.ensures.ok ∙ ap (λ (bs : List WordBit). (with_bits c.word.new.self bs).net) more
    ∙ ap (λ (n : Net). (with_bits n less).net) after in
    let place_b : c.in_ok-b.b ≡ (with_bits first less).place =
    c.in_ok-b.ensures.place ∙ ap (λ (bs : List WordBit). (with_bits c.word.new.self bs).place) more
    ∙ ap (λ (n : Net). (with_bits n less).place) after in
    let there = digits-there net given digits.known rest c.requires.net c.requires.few long c.requires.there c.requires.digits in
    let are = operands-of rest net given c.requires.net c.requires.few long c.requires.there less some same there in
    subst (λ (n : Net). AreOperands rest n c.in_ok-a.a c.in_ok-b.b) (sym after_both)
    (subst (λ (a : ℕ). AreOperands rest (with_bits first less).net a c.in_ok-b.b) (sym place)
    (subst (λ (b : ℕ). AreOperands rest (with_bits first less).net (with_bits net given).place b) (sym place_b) are))
