-- The net fits the operator.
use Rattle.std.proofs.Common.{◌≡◌, ℕ, Bool, true, false, map, refl, sym, ap, ◌∙◌, subst}
use Rattle.std.specs.Prelude.{ℤ, pos}
use Rattle.opgen_num.specs.Rounding.{IsWithinOne}
use Rattle.opgen_num.specs.Words.{val, nat}
use Rattle.opgen_num.proofs.Integers.{less-zero}
use Rattle.opgen_num.proofs.Values.{val-unsigned}
use Rattle.opgen_num.proofs.Quotients.{quotient_near}
use Rattle.opgen_net.specs.Flow.{Inputs, input_at}
use Rattle.opgen_net.specs.Placed.{number_at}
use Rattle.opgen_kinds.specs.declared.small_div.SmallDiv.{SmallDiv}
use Rattle.opgen_operator.specs.declared.operator.Operator.TheVariants.{Constdiv}
use Rattle.opgen_operator.specs.Fits.{FitsOperator, FitsInEachMode, name_and_width}
use Rattle.opgen_kinds.specs.SmallDiv.{IsAcceptedSmallDiv, IsGoodSmallQuotient, small_ports, IsSmallDiv}
use Rattle.opgen_operator.specs.Operator.{operator_inputs}
use Rattle.opgen_operator.specs.Outputs.{recent_words, output_words}
use Rattle.opgen_ports.specs.Ports.{Recent}
use Rattle.opgen_operator.proofs.Accepted.{accepted_ranges}
use Rattle.opgen_ports.specs.Modes.{mode_of_exact}
use Rattle.opgen_operator.proofs.EachMode.{fits_by_mark}
use Rattle.opgen_operator.proofs.Shown.{one_shown, two_shown}
use Rattle.opgen_ports.proofs.Marks.{good_by_mark}
use Rattle.opgen_ports.proofs.InputPorts.{input_bit}
use Rattle.opgen_constdiv.specs.Rows.{IsSmall}
use Rattle.opgen_constdiv.specs.Recipe.{digit_number, Divided, after, net_of}
use Rattle.opgen_constdiv.specs.Steps.{IsInput}
use Rattle.opgen_constdiv.proofs.Division.{base, AreFor}
use Rattle.opgen_constdiv.proofs.Whole.{results-valid, made-inputs, made-passes, for_inputs, divided-right, output_ports, outputs-shown, result_words, quotient-word, rest-word}

pub accepted : (s : SmallDiv) → IsAcceptedSmallDiv s → IsSmallDiv s
accepted s is = accepted_ranges (Constdiv s) is

pub has_input : (s : SmallDiv) → IsSmallDiv s → IsInput s.input.width
has_input s is = record { some = input_bit s.input is.input; few = is.input.most }

pub has_divisor : (s : SmallDiv) → IsSmallDiv s → IsSmall s.divisor
has_divisor s is = record { some = is.least; few = is.most }

-- unsigned words, in the last cycle

module _ (s : SmallDiv) (is : IsSmallDiv s) where
  abbrev w : ℕ
  w = s.input.width

  abbrev c : ℕ
  c = s.divisor

  abbrev input : IsInput w
  input = has_input s is

  abbrev small : IsSmall c
  small = has_divisor s is

  abbrev last : Divided
  last = after w c (digit_number w c)

  abbrev inputs_now : Inputs → ℕ → (port : ℕ) → Recent
  inputs_now inputs t = recent_words (operator_inputs (Constdiv s)) inputs t

  abbrev input_number : Inputs → ℕ → ℕ
  input_number inputs t = nat (input_at inputs 0 w (pos t))

  input_now : (inputs : Inputs) (t : ℕ) → inputs_now inputs t 0 0 ≡ pos (input_number inputs t)
  input_now inputs t =
      ap (λ u. val (input_at inputs 0 w u) s.input) (less-zero t) ∙ val-unsigned (input_at inputs 0 w (pos t)) s.input is.unsigned

  same_ports : (exact : Bool) → output_ports w c input small exact ≡ map name_and_width (small_ports exact s)
  same_ports true = refl
  same_ports false = refl

  abbrev outputs_now : (exact : Bool) → Inputs → ℕ → (port : ℕ) → ℤ
  outputs_now exact inputs t = output_words (small_ports exact s) (result_words w c input small exact inputs (pos t))

  good : (exact : Bool) (inputs : Inputs) (t : ℕ) → AreFor w c input small (base w c input small) inputs
      → IsGoodSmallQuotient exact s (inputs_now inputs t 0 0) (outputs_now exact inputs t 0) (outputs_now exact inputs t 1)
  good true inputs t words =
      let q = ap pos (quotient-word w c input small true inputs (pos t) words) in
      let r = ap pos (rest-word w c input small inputs (pos t) words) in
      let held = divided-right w c input small inputs (pos t) words in
      two_shown (IsGoodSmallQuotient true s) (input_now inputs t) q r held
  good false inputs t words =
      let q = ap pos (quotient-word w c input small false inputs (pos t) words) in
      let held = divided-right w c input small inputs (pos t) words in
      one_shown (λ x y. IsWithinOne x (pos c) y) (input_now inputs t) q
      (quotient_near (input_number inputs t) c (number_at last.net.nodes inputs (pos t) last.quotient)
      (number_at last.net.nodes inputs (pos t) last.rest) held)

  pub fits : FitsOperator (mode_of_exact s.exact) (Constdiv s) (net_of s.exact w c)
  fits = record {
    valid = results-valid w c input small s.exact;
    inputs = made-inputs w c input small s.exact;
    outputs = outputs-shown w c input small s.exact ∙ same_ports s.exact;
    delays = made-passes w c input small s.exact;
    good = λ inputs t words within range.
        good_by_mark s.exact
        (λ e. IsGoodSmallQuotient e s (inputs_now inputs t 0 0) (outputs_now s.exact inputs t 0) (outputs_now s.exact inputs t 1))
        (good s.exact inputs t (for_inputs w c input small s.exact inputs words));
  }

pub fits_modes : (s : SmallDiv) → IsAcceptedSmallDiv s → FitsInEachMode (Constdiv s) (net_of s.exact s.input.width s.divisor)
fits_modes s is = fits_by_mark (mode_of_exact s.exact) (Constdiv s) (net_of s.exact s.input.width s.divisor) refl (fits s (accepted s is))
