use Rattle.std.proofs.Common.{◌≡◌, ℕ, suc, ◌+◌, ◌*◌, ◌<◌, ◌≤◌, List, ◌++◌, length, take, drop, sym, ap, ◌∙◌, subst, arith}
use Rattle.std.specs.Prelude.{All}
use Rattle.opgen_net.specs.declared.word_bits.WordBit.{WordBit}
use Rattle.opgen_net.specs.Valid.{widths}
use Rattle.opgen_net.specs.WordRule.{IsThere}
use Rattle.opgen_constdiv.specs.Rows.{IsSmall, digit_width}
use Rattle.opgen_constdiv.specs.Recipe.{digit_number, dividend, digit_bits, Divided, divided, after}
use Rattle.opgen_constdiv.specs.Steps.{IsInput}
use Rattle.opgen_constdiv.proofs.Division.{Stands, stands, within, given-length, given-there}
use Rattle.opgen_constdiv.proofs.digits.divide_digits.Goals as goal

-- before a digit
module _ (w c : ℕ) (input : IsInput w) (small : IsSmall c) (k : ℕ) (before : k < digit_number w c) (known : Divided)
    (so_far : after w c k ≡ known) where
  stand : Stands w c input small k known
  stand = subst (Stands w c input small k) so_far (stands w c input small k (omega (arith, before)))

  room : (bits : List WordBit) (width : ℕ) → bits ≡ dividend w c → width ≡ digit_width c → k * width + width ≤ length bits
  room bits width is_bits is_width =
      omega (arith, within w c input small k known before stand, ap length is_bits, ap (λ m. k * m + m) is_width)

  digit : (bits : List WordBit) (width : ℕ) → bits ≡ dividend w c → width ≡ digit_width c
      → take width (drop (k * width) bits) ≡ digit_bits w c k
  digit bits width is_bits is_width =
      ap (λ m. take m (drop (k * m) bits)) is_width ∙ ap (λ (l : List WordBit). take (digit_width c) (drop (k * digit_width c) l)) is_bits

  six : (bits : List WordBit) → bits ≡ digit_bits w c k → length (known.rest ++ bits) ≡ 6
  six bits e = ap (λ (l : List WordBit). length (known.rest ++ l)) e ∙ given-length w c input small k known before stand

  there : (bits : List WordBit) → bits ≡ digit_bits w c k → All (IsThere (widths known.net.nodes)) (known.rest ++ bits)
  there bits e =
      subst (λ (l : List WordBit). All (IsThere (widths known.net.nodes)) (known.rest ++ l)) (sym e)
      (given-there w c input small k known before stand)

  next : (bits : List WordBit) (new : Divided) → bits ≡ digit_bits w c k → divided c bits known ≡ new → after w c (k + 1) ≡ new
  next bits new e made =
      let one : k + 1 ≡ suc k = omega arith in
      ap (after w c) one
      ∙ ap (λ (d : Divided). divided c (digit_bits w c k) d) so_far
      ∙ ap (λ (l : List WordBit). divided c l known) (sym e)
      ∙ made

pub digit_at-digit-requires-clause-there : goal.digit_at-digit-requires-clause-there
digit_at-digit-requires-clause-there c =
    let before : c.digits.k < digit_number c.args.width c.args.divisor = omega (arith, c.digits-test.true, c.digit_number-k-end.ensures.value) in
    room c.args.width c.args.divisor c.requires.input c.requires.small c.digits.k before _ c.digits.invariant c.as_slice.result.now
    c.digit_width-digit.result (c.as_slice.ensures ∙ c.in_ok-bits.ensures) c.digit_width-digit.ensures.value

pub divide_digit-requires-clause-net : goal.divide_digit-requires-clause-net
divide_digit-requires-clause-net c =
    let before : c.digits.k < digit_number c.args.width c.args.divisor = omega (arith, c.digits-test.true, c.digit_number-k-end.ensures.value) in
    (stand c.args.width c.args.divisor c.requires.input c.requires.small c.digits.k before _ c.digits.invariant).later.valid

pub divide_digit-requires-clause-there : goal.divide_digit-requires-clause-there
divide_digit-requires-clause-there c =
    let before : c.digits.k < digit_number c.args.width c.args.divisor = omega (arith, c.digits-test.true, c.digit_number-k-end.ensures.value) in
    there c.args.width c.args.divisor c.requires.input c.requires.small c.digits.k before _ c.digits.invariant c.digit_at-digit.result.now
    (c.digit_at-digit.ensures
    ∙ digit c.args.width c.args.divisor c.requires.input c.requires.small c.digits.k before _ c.digits.invariant c.as_slice.result.now
    c.digit_width-digit.result (c.as_slice.ensures ∙ c.in_ok-bits.ensures) c.digit_width-digit.ensures.value)

pub divide_digit-requires-clause-six : goal.divide_digit-requires-clause-six
divide_digit-requires-clause-six c =
    let before : c.digits.k < digit_number c.args.width c.args.divisor = omega (arith, c.digits-test.true, c.digit_number-k-end.ensures.value) in
    six c.args.width c.args.divisor c.requires.input c.requires.small c.digits.k before _ c.digits.invariant c.digit_at-digit.result.now
    (c.digit_at-digit.ensures
    ∙ digit c.args.width c.args.divisor c.requires.input c.requires.small c.digits.k before _ c.digits.invariant c.as_slice.result.now
    c.digit_width-digit.result (c.as_slice.ensures ∙ c.in_ok-bits.ensures) c.digit_width-digit.ensures.value)

pub digits-preserved : goal.digits-preserved
digits-preserved c =
    let before : c.digits.k < digit_number c.args.width c.args.divisor = omega (arith, c.digits-test.true, c.digit_number-k-end.ensures.value) in
    next c.args.width c.args.divisor c.requires.input c.requires.small c.digits.k before _ c.digits.invariant c.digit_at-digit.result.now _
    (c.digit_at-digit.ensures
    ∙ digit c.args.width c.args.divisor c.requires.input c.requires.small c.digits.k before _ c.digits.invariant c.as_slice.result.now
    c.digit_width-digit.result (c.as_slice.ensures ∙ c.in_ok-bits.ensures) c.digit_width-digit.ensures.value)
    c.in_ok-divide_digit.ensures.ok

pub returns-clause-valid : goal.returns-clause-valid
returns-clause-valid c =
    let w = c.args.width in
    let d = c.args.divisor in
    let all : c.digits.k ≤ digit_number w d = omega (arith, c.digits.auto.k-end, c.digit_number-k-end.ensures.value) in
    (subst (Stands w d c.requires.input c.requires.small c.digits.k) c.digits.invariant
    (stands w d c.requires.input c.requires.small c.digits.k all)).later.valid
