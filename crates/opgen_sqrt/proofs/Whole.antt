-- The net of an accepted single: it is valid, its steps are right, and its outputs are good.
use Rattle.std.proofs.Common.{◌≡◌, ℕ, ◌+◌, ◌-◌, ◌*◌, ◌%◌, ◌^◌, ◌≤◌, Bool, true, false, List, [], ◌++◌, length, map, take, replicate, refl, sym, ap, ◌∙◌, subst, arith, nat_lt, codes}
use Rattle.std.specs.Prelude.{ℤ, pos, negsuc, ◌≤ℤ◌, unsigned_abs}
use Rattle.std.proofs.Math.Seq.{take-length}
use Rattle.std.proofs.lemmas.Bool.{or_left}
use Rattle.std.proofs.lemmas.Int.{ints}
use Rattle.std.proofs.lemmas.List.{length-replicate}
use Rattle.std.proofs.lemmas.List.Elements.{All-take}
use Rattle.opgen_num.specs.Rounding.{IsGoodRoot}
use Rattle.opgen_num.specs.Words.{val, nat}
use Rattle.opgen_num.proofs.Integers.{less-zero}
use Rattle.opgen_num.proofs.Values.{val-unsigned}
use Rattle.opgen_design.specs.Value.{word_at}
use Rattle.opgen_net.specs.declared.net.Net.{Net}
use Rattle.opgen_net.specs.declared.word_bits.WordBit.{WordBit}
use Rattle.opgen_net.specs.declared.word_bits.WordBit.TheVariants.{Zero}
use Rattle.opgen_net.specs.Delays.{delay_count}
use Rattle.opgen_net.specs.Flow.{Inputs, flow, input_at, KeepsFlow}
use Rattle.opgen_net.specs.Valid.{widths}
use Rattle.opgen_net.specs.WordRule.{IsThere, bits_from}
use Rattle.opgen_net.proofs.Delays.{passes-count}
use Rattle.opgen_net.proofs.FlowWidths.{flow-width}
use Rattle.opgen_net.proofs.Grown.{grown-keeps}
use Rattle.opgen_kinds.specs.declared.single.Single.{Single}
use Rattle.opgen_operator.specs.declared.operator.Operator.TheVariants.{Root}
use Rattle.opgen_ports.specs.declared.TheConstants.{MAX_SHIFT}
use Rattle.opgen_operator.specs.Fits.{FitsOperator, FitsInEachMode, name_and_width}
use Rattle.opgen_kinds.specs.Single.{IsAcceptedSingle, square, IsGoodSquareRoot, root_shift, root_width, root_ports, IsSingle}
use Rattle.opgen_operator.specs.Operator.{operator_inputs}
use Rattle.opgen_operator.specs.Outputs.{recent_words, output_words}
use Rattle.opgen_ports.specs.Ports.{Recent}
use Rattle.opgen_ports.specs.Reaches.{places_up, up}
use Rattle.opgen_operator.proofs.Accepted.{accepted_ranges, accepted_shift}
use Rattle.opgen_ports.specs.Modes.{mode_of_exact}
use Rattle.opgen_operator.proofs.EachMode.{fits_by_mark}
use Rattle.opgen_operator.proofs.Shown.{one_shown, two_shown}
use Rattle.opgen_ports.proofs.Marks.{good_by_mark}
use Rattle.opgen_ports.proofs.InputPorts.{input_bit}
use Rattle.opgen_net.specs.Placed.{number_at}
use Rattle.opgen_digits.specs.Digit.{Known}
use Rattle.opgen_digits.specs.Results.{AreResults, with_results}
use Rattle.opgen_net.proofs.Numbers.{at-append, at-zeros, at-node, number-kept}
use Rattle.opgen_net.proofs.Later.{Later, words-later}
use Rattle.opgen_digits.proofs.Results.{result_ports, result_words, results-inputs, results-valid, results-keep, results-delays, results-shown, results-digits, results-rest}
use Rattle.opgen_sqrt.specs.Recipe.{shifted_width, radicand, keeps, after, net_of_single}
use Rattle.opgen_sqrt.specs.Steps.{IsRooted, HoldsAfterEachStep}
use Rattle.opgen_sqrt.proofs.Arithmetic.{near, same_rooting, some_rest, kept_rest}
use Rattle.opgen_sqrt.proofs.Steps.{HasWidths, base, AreFor, Stands, stands, later-by, input-valid, radicand-length, radicand-there}

-- accepted singles

up_within : (s : ℤ) → s ≤ℤ MAX_SHIFT → places_up s ≤ 48
up_within (pos n) h = omega (arith, ints)
up_within (negsuc n) h = omega arith

-- the root has half the bits of input and shift
pub root_bits : (r : Single) → IsAcceptedSingle r → (1 ≤ root_width r) × (root_width r ≤ 48)
root_bits r is =
    let ranges : IsSingle r = accepted_ranges (Root r) is in
    let few = up_within (root_shift r) (accepted_shift (Root r) is).1 in
    (omega (arith, few, input_bit r.input ranges.input), omega (arith, few, ranges.input.most))

pub has_widths : (r : Single) → IsAcceptedSingle r → HasWidths r
has_widths r is =
    let ranges : IsSingle r = accepted_ranges (Root r) is in
    record { some = input_bit r.input ranges.input; few_x = omega (arith, ranges.input.most); few = omega (arith, (root_bits r is).1) }

-- unsigned words, in the last cycle

module _ (r : Single) (have : HasWidths r) (some_root : 1 ≤ root_width r) where
  abbrev count : ℕ
  count = root_width r

  abbrev last : Known
  last = after r count

  at_last : Stands r have count last
  at_last = stands r have count (omega arith)

  rest-length : r.exact ≡ true → length last.rest ≡ count + 1
  rest-length exact = at_last.rest_count (or_left r.exact (nat_lt count count) exact)

  pub results : AreResults r.exact last
  results = record {
    width = (omega (arith, at_last.count, some_root), omega (arith, at_last.count, have.few));
    digits = at_last.digits;
    rest_width = λ exact. (omega (arith, rest-length exact), omega (arith, rest-length exact, have.few));
    rest = at_last.rest;
  }

  abbrev made : Net
  made = net_of_single r

  pub made-inputs : made.inputs ≡ (base r have).inputs
  made-inputs = results-inputs r.exact (codes "y") last ∙ at_last.later.grown.inputs

  -- the nodes before the results keep their words
  last-keeps : KeepsFlow last.net.nodes made.nodes
  last-keeps = results-keep (codes "y") last at_last.later.valid r.exact results

  -- the nodes after a step keep their words
  step-keeps : (k : ℕ) → k ≤ count → KeepsFlow (after r k).net.nodes made.nodes
  step-keeps k h =
      let old = (after r k).net in
      let sum : k + (count - k) ≡ count = omega (arith, h) in
      let later : Later old last.net = subst (λ m. Later old (after r m).net) sum (later-by r have k (count - k) (omega (arith, h))) in
      grown-keeps old last.net later.grown made.nodes last-keeps

  inputs-keep : KeepsFlow (base r have).nodes made.nodes
  inputs-keep = grown-keeps (base r have) last.net at_last.later.grown made.nodes last-keeps

  for_inputs : (inputs : Inputs) → AreFor r have made inputs → AreFor r have (base r have) inputs
  for_inputs inputs words = subst (λ is. AreFor r have (record made { inputs = is }) inputs) made-inputs words

  pub steps_hold : HoldsAfterEachStep r made
  steps_hold k h inputs t words =
      let s : Stands r have k (after r k) = stands r have k h in
      let old = (base r have).nodes in
      let step = (after r k).net.nodes in
      let there = All-take (IsThere (widths old)) (2 * k) (radicand r) (radicand-there r have) in
      let n = number-kept old made.nodes inputs-keep inputs t (take (2 * k) (radicand r)) there in
      let y = number-kept step made.nodes (step-keeps k h) inputs t (after r k).digits s.digits in
      let rest = number-kept step made.nodes (step-keeps k h) inputs t (after r k).rest s.rest in
      same_rooting (keeps r k) _ _ _ _ _ _ (sym n) (sym y) (sym rest) (s.right inputs t (for_inputs inputs words))

  -- the input in the last cycle

  abbrev inputs_now : Inputs → ℕ → (port : ℕ) → Recent
  inputs_now inputs t = recent_words (operator_inputs (Root r)) inputs t

  abbrev input_number : Inputs → ℤ → ℕ
  input_number inputs t = nat (input_at inputs 0 r.input.width t)

  input_now : r.input.signed ≡ false → (inputs : Inputs) (t : ℕ) → inputs_now inputs t 0 0 ≡ pos (input_number inputs (pos t))
  input_now signed inputs t =
      ap (λ u. val (input_at inputs 0 r.input.width u) r.input) (less-zero t) ∙ val-unsigned (input_at inputs 0 r.input.width (pos t)) r.input signed

  radicand-number : (inputs : Inputs) (t : ℤ) → AreFor r have (base r have) inputs
      → number_at (base r have).nodes inputs t (take (2 * count) (radicand r)) ≡ input_number inputs t * up (root_shift r)
  radicand-number inputs t words =
      let nodes = (base r have).nodes in
      let s = places_up (root_shift r) in
      let high = bits_from 0 0 r.input.width in
      let zeros : List WordBit = replicate s Zero in
      let odd : List WordBit = replicate (shifted_width r % 2) Zero in
      let all : take (2 * count) (radicand r) ≡ radicand r =
      ap (λ m. take m (radicand r)) (sym (radicand-length r have)) ∙ take-length (radicand r) in
      let wide : length (flow nodes inputs 0 t) ≡ r.input.width = flow-width (base r have) (input-valid r have) inputs words 0 t in
      let x : number_at nodes inputs t high ≡ input_number inputs t = at-node nodes inputs t 0 r.input.width wide in
      let long : 2 ^ length zeros * number_at nodes inputs t high ≡ 2 ^ s * input_number inputs t =
      ap (λ m. 2 ^ m * number_at nodes inputs t high) (length-replicate s Zero) ∙ ap (λ m. 2 ^ s * m) x in
      let above : 2 ^ length (high ++ zeros) * number_at nodes inputs t odd ≡ 0 =
      ap (λ m. 2 ^ length (high ++ zeros) * m) (at-zeros nodes inputs t (shifted_width r % 2)) ∙ omega arith in
      ap (number_at nodes inputs t) all
      ∙ at-append nodes inputs t odd (high ++ zeros)
      ∙ omega (arith, above, at-append nodes inputs t high zeros, at-zeros nodes inputs t s, long)

  -- the outputs

  no_output : last.net.outputs ≡ []
  no_output = at_last.later.grown.outputs

  same_ports : (exact : Bool) → r.exact ≡ exact
      → result_ports exact (codes "y") (length last.digits) (length last.rest) ≡ map name_and_width (root_ports exact r)
  same_ports false e = ap (λ m. result_ports false (codes "y") m (length last.rest)) at_last.count
  same_ports true e =
      ap (λ m. result_ports true (codes "y") m (length last.rest)) at_last.count ∙ ap (result_ports true (codes "y") count) (rest-length e)

  module _ (inputs : Inputs) (t : ℤ) (words : AreFor r have (base r have) inputs) where
    abbrev root_at : ℕ
    root_at = number_at last.net.nodes inputs t last.digits

    abbrev rest_at : ℕ
    rest_at = number_at last.net.nodes inputs t last.rest

    words_last : AreFor r have last.net inputs
    words_last = words-later (base r have) last.net at_last.later inputs words

    digits-number : (exact : Bool) → AreResults exact last
        → nat (word_at (result_words (with_results exact (codes "y") last) inputs t) 0) ≡ root_at
    digits-number exact are = results-digits (codes "y") last at_last.later.valid no_output inputs t words_last exact are

    rest-number : AreResults true last → nat (word_at (result_words (with_results true (codes "y") last) inputs t) 1) ≡ rest_at
    rest-number are = results-rest (codes "y") last at_last.later.valid no_output inputs t words_last are

    rooted : IsRooted (keeps r count) (input_number inputs t * up (root_shift r)) root_at rest_at
    rooted = same_rooting (keeps r count) _ _ _ _ _ _ (radicand-number inputs t words) refl refl (at_last.right inputs t words)

  -- good outputs

  abbrev outputs_now : (exact : Bool) → Inputs → ℕ → (port : ℕ) → ℤ
  outputs_now exact inputs t = output_words (root_ports exact r) (result_words (with_results exact (codes "y") last) inputs (pos t))

  good : (exact : Bool) → r.exact ≡ exact → AreResults exact last → r.input.signed ≡ false
      → (inputs : Inputs) (t : ℕ) → AreFor r have (base r have) inputs
      → IsGoodSquareRoot exact r (inputs_now inputs t 0 0) (outputs_now exact inputs t 0) (outputs_now exact inputs t 1)
  good true e are signed inputs t words =
      let y = ap pos (digits-number inputs (pos t) words true are) in
      let rest = ap pos (rest-number inputs (pos t) words are) in
      let held = kept_rest (keeps r count) _ _ _ (or_left r.exact (nat_lt count count) e) (rooted inputs (pos t) words) in
      two_shown (IsGoodSquareRoot true r) (input_now signed inputs t) y rest held
  good false e are signed inputs t words =
      let y = ap pos (digits-number inputs (pos t) words false are) in
      let held = some_rest (keeps r count) _ _ _ (rooted inputs (pos t) words) in
      one_shown (λ x z. IsGoodRoot (square r x) (unsigned_abs z)) (input_now signed inputs t) y (near _ _ held.0 held.1)

  pub fits : r.input.signed ≡ false → FitsOperator (mode_of_exact r.exact) (Root r) made
  fits signed = record {
    valid = results-valid (codes "y") last at_last.later.valid r.exact results;
    inputs = made-inputs;
    outputs = results-shown (codes "y") last at_last.later.valid no_output r.exact results ∙ same_ports r.exact refl;
    delays =
        let none : delay_count (base r have).nodes ≡ 0 = refl in
        passes-count 0 made.nodes
        (omega (arith, results-delays (codes "y") last at_last.later.valid r.exact results, at_last.later.grown.delays, none));
    good = λ inputs t words within range.
        good_by_mark r.exact
        (λ e. IsGoodSquareRoot e r (inputs_now inputs t 0 0) (outputs_now r.exact inputs t 0) (outputs_now r.exact inputs t 1))
        (good r.exact refl results signed inputs t (for_inputs inputs words));
  }

pub fits_modes : (r : Single) → IsAcceptedSingle r → FitsInEachMode (Root r) (net_of_single r)
fits_modes r is =
    let ranges : IsSingle r = accepted_ranges (Root r) is in
    fits_by_mark (mode_of_exact r.exact) (Root r) (net_of_single r) refl (fits r (has_widths r is) (root_bits r is).0 ranges.unsigned)

pub all_steps : (r : Single) → IsAcceptedSingle r → HoldsAfterEachStep r (net_of_single r)
all_steps r is = steps_hold r (has_widths r is) (root_bits r is).0
