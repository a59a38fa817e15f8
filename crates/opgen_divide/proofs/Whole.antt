-- The net of an accepted pair: it is valid, its steps are right, and its outputs are good.
use Rattle.std.proofs.Common.{◌≡◌, ℕ, zero, suc, ◌+◌, ◌-◌, ◌*◌, ◌^◌, ◌<◌, ◌≤◌, ◌≢◌, Bool, true, false, ◌&&◌, List, [], length, map, take, replicate, refl, sym, ap, ◌∙◌, subst, arith, codes}
use Rattle.std.specs.Prelude.{ℤ, pos, ◌-ℤ◌, slice_index, unsigned_abs, if◌then◌else◌}
use Rattle.std.proofs.Math.Nat.{two-pow-succ}
use Rattle.std.proofs.lemmas.Int.{ints}
use Rattle.std.proofs.lemmas.List.{length-replicate}
use Rattle.std.proofs.lemmas.List.Elements.{All-take}
use Rattle.opgen_num.specs.declared.format.TheConstants.{MAX_WIDTH}
use Rattle.opgen_num.specs.declared.format.Format.{Format}
use Rattle.opgen_num.specs.Words.{xor, highest, int, val, nat}
use Rattle.opgen_num.proofs.Values.{int_holds}
use Rattle.opgen_num.proofs.Words.{nat-below, same-word}
use Rattle.opgen_num.proofs.Integers.{less-zero}
use Rattle.opgen_design.specs.Value.{word_at}
use Rattle.opgen_net.specs.declared.net.Net.{Net}
use Rattle.opgen_net.specs.declared.word_bits.WordBit.{WordBit}
use Rattle.opgen_net.specs.declared.word_bits.WordBit.TheVariants.{Zero}
use Rattle.opgen_net.specs.Delays.{delay_count}
use Rattle.opgen_net.specs.Flow.{Inputs, flow, input_at, KeepsFlow}
use Rattle.opgen_net.specs.Valid.{IsValid, widths}
use Rattle.opgen_net.specs.WordRule.{IsThere, bits_from, word_flow}
use Rattle.opgen_net.proofs.BitLists.{length-word_flow}
use Rattle.opgen_net.proofs.Delays.{passes-count}
use Rattle.opgen_net.proofs.FlowWidths.{flow-width}
use Rattle.opgen_net.proofs.Grown.{grown-flow, grown-keeps}
use Rattle.opgen_kinds.specs.declared.pair.Pair.{Pair}
use Rattle.opgen_kinds.specs.Pair.{IsAcceptedPair, IsGoodQuotient, pair_shift, quotient_ports, quotient_format, remainder_format, sign_bit, IsPair}
use Rattle.opgen_kinds.proofs.of_kind.Pair.{with_sign, good_of_sizes}
use Rattle.opgen_operator.specs.declared.operator.Operator.TheVariants.{Divide}
use Rattle.opgen_operator.specs.Fits.{FitsOperator, FitsInEachMode, name_and_width}
use Rattle.opgen_operator.specs.Operator.{operator_inputs}
use Rattle.opgen_operator.specs.Outputs.{recent_words, output_words}
use Rattle.opgen_operator.proofs.Accepted.{accepted_ranges, accepted_width}
use Rattle.opgen_ports.specs.declared.recipes.Recurrence.{Recurrence}
use Rattle.opgen_ports.specs.declared.recipes.Recurrence.TheVariants.{Restoring, Nonrestoring}
use Rattle.opgen_ports.specs.Ports.{Recent}
use Rattle.opgen_ports.specs.Reaches.{places_up, up}
use Rattle.opgen_ports.specs.Modes.{mode_of_exact}
use Rattle.opgen_operator.proofs.EachMode.{fits_by_mark}
use Rattle.opgen_operator.proofs.Shown.{one_shown, two_shown}
use Rattle.opgen_ports.proofs.Marks.{good_by_mark}
use Rattle.opgen_ports.proofs.InputPorts.{input_bit}
use Rattle.opgen_net.specs.Placed.{number_at}
use Rattle.opgen_digits.specs.Digit.{Known}
use Rattle.opgen_digits.specs.Results.{AreResults, with_results}
use Rattle.opgen_net.proofs.Numbers.{at-append, at-zeros, at-node, number-kept}
use Rattle.opgen_net.proofs.Later.{Later, later-then, words-later}
use Rattle.opgen_digits.proofs.Results.{shown, result_ports, result_words, results-inputs, results-valid, results-keep, results-delays, results-shown, results-digits, results-rest}
use Rattle.opgen_nonrestoring.proofs.Divided.{steps-hold_in}
use Rattle.opgen_divide.specs.Inputs.{HasInputs}
use Rattle.opgen_divide.specs.Recipe.{with_magnitudes, numerator, digit_count, keeps, after, divisor_node, divided_by, divided_sizes, with_signs, net_of_pair}
use Rattle.opgen_divide.specs.Steps.{IsDivided, DividesSizes, HoldsByRecurrence, HoldsAfterEachStep}
use Rattle.opgen_divide.proofs.Absolutes.{HasWidths, start, start-inputs, start-valid, AreFor, are_magnitudes, size}
use Rattle.opgen_divide.proofs.Arithmetic.{same_division, some_rest, kept_rest}
use Rattle.opgen_divide.proofs.Divisions.{numerator_at, IsDivision, is_divisor, division}
use Rattle.opgen_divide.proofs.Finished.{IsFinished, is_finished, still-inputs}
use Rattle.opgen_divide.proofs.Outputs.{output-wide}
use Rattle.opgen_divide.proofs.Steps.{base, divisor_at, Stands, stands, later-by, base-valid, dividend-there, divisor-there, numerator-there}

-- accepted pairs

pub has_widths : (p : Pair) → IsAcceptedPair p → HasWidths p
has_widths p is =
    let ranges : IsPair p = accepted_ranges (Divide p) is in
    record {
      some_a = input_bit p.a ranges.a;
      some_b = input_bit p.b ranges.b;
      few_a = omega (arith, ranges.a.most);
      few_b = omega (arith, ranges.b.most);
      few = accepted_width (Divide p) (quotient_format p).width is refl;
      alike = ranges.alike;
    }

-- signs and sizes of words

-- a number is its size with its sign
by_size : (v : List Bool) (f : Format) → val v f ≡ with_sign (f.signed && highest v) (size v f)
by_size v f = go f.signed (highest v) refl
  where
    go : (signed top : Bool) → highest v ≡ top
        → (if signed then int v else pos (nat v)) ≡ with_sign (signed && top) (unsigned_abs (if signed then int v else pos (nat v)))
    go false top e = refl
    go true true e =
        let whole : int v ≡ pos (nat v) -ℤ pos (2 ^ length v) = ap (λ (c : Bool). pos (nat v) -ℤ pos (if c then 2 ^ length v else 0)) e in
        omega (arith, ints, whole, nat-below v)
    go true false e =
        let whole : int v ≡ pos (nat v) -ℤ pos 0 = ap (λ (c : Bool). pos (nat v) -ℤ pos (if c then 2 ^ length v else 0)) e in
        omega (arith, ints, whole)

-- a number in two's complement is at most half the numbers of its width from 0
half_size : (v : List Bool) (f : Format) → 1 ≤ length v → f.signed ≡ true → 2 * size v f ≤ 2 ^ length v
half_size v f some e =
    let same : size v f ≡ unsigned_abs (int v) = ap (λ (c : Bool). unsigned_abs (if c then int v else pos (nat v))) e in
    let holds = int_holds v some in
    let k : length v ≡ suc (length v - 1) = omega (arith, some) in
    omega (arith, ints, same, holds.0, holds.1, ap (λ n. 2 ^ n) k, two-pow-succ (length v - 1))

some_size : (s : Bool) (n : ℕ) (z : ℤ) → z ≡ with_sign s n → z ≢ pos 0 → 0 < n
some_size true zero z e f = absurd (f e)
some_size false zero z e f = absurd (f e)
some_size s (suc n) z e f = omega arith

module _ (p : Pair) (have : HasWidths p) where
  abbrev count : ℕ
  count = digit_count p

  abbrev last : Known
  last = divided_sizes p

  at_last : IsDivision p have last
  at_last = division p have p.recurrence

  abbrev final : Known
  final = with_signs p last

  pub divided-results : AreResults p.exact last
  divided-results = at_last.results

  start-last : Later (start p have) last.net
  start-last = later-then (start p have) (base p have) last.net (are_magnitudes p have).later at_last.later

  pub last-inputs : HasInputs p last.net
  last-inputs = still-inputs p (start p have) last.net start-last (start-inputs p have)

  pub last-valid : IsValid last.net
  last-valid = at_last.later.valid

  pub last-few : length last.digits + sign_bit p.a.signed ≤ MAX_WIDTH
  last-few = omega (arith, at_last.count, have.few)

  finished : IsFinished p last have.alike last-valid last-inputs last-few divided-results final
  finished = is_finished p last have.alike last-valid last-inputs last-few divided-results

  pub results : AreResults p.exact final
  results = finished.results

  final-valid : IsValid final.net
  final-valid = finished.later.valid

  abbrev made : Net
  made = net_of_pair p

  pub made-inputs : made.inputs ≡ (start p have).inputs
  made-inputs =
      results-inputs p.exact (codes "q") final
      ∙ finished.later.grown.inputs
      ∙ start-last.grown.inputs

  -- the nodes before the results keep their words
  last-keeps : KeepsFlow last.net.nodes made.nodes
  last-keeps = grown-keeps last.net final.net finished.later.grown made.nodes (results-keep (codes "q") final final-valid p.exact results)

  base-keeps : KeepsFlow (base p have).nodes made.nodes
  base-keeps = grown-keeps (base p have) last.net at_last.later.grown made.nodes last-keeps

  start-keeps : KeepsFlow (start p have).nodes made.nodes
  start-keeps = grown-keeps (start p have) (base p have) (are_magnitudes p have).later.grown made.nodes base-keeps

  -- the words of the inputs
  for_start : (inputs : Inputs) → AreFor p have made inputs → AreFor p have (start p have) inputs
  for_start inputs words = subst (λ is. AreFor p have (record made { inputs = is }) inputs) made-inputs words

  for_base : (inputs : Inputs) → AreFor p have (start p have) inputs → AreFor p have (base p have) inputs
  for_base inputs words = words-later (start p have) (base p have) (are_magnitudes p have).later inputs words

  pub sizes_hold : DividesSizes p made
  sizes_hold inputs t words =
      let for = for_start inputs words in
      let a = (with_magnitudes p).dividend in
      let b = (with_magnitudes p).divisor in (
        ap nat (base-keeps inputs a t (dividend-there p have))
            ∙ (are_magnitudes p have).dividend-number inputs t for
            ∙ ap (λ v. size v p.a) (sym (start-keeps inputs 0 t (omega arith))),
        ap nat (base-keeps inputs b t (divisor-there p have))
            ∙ (are_magnitudes p have).divisor-number inputs t for
            ∙ ap (λ v. size v p.b) (sym (start-keeps inputs 1 t (omega arith))),
      )

  -- with restoring
  step-keeps : KeepsFlow (after p count).net.nodes made.nodes → (k : ℕ) → k ≤ count → KeepsFlow (after p k).net.nodes made.nodes
  step-keeps keeps k h =
      let old = (after p k).net in
      let all = (after p count).net in
      let sum : k + (count - k) ≡ count = omega (arith, h) in
      let later : Later old all = subst (λ m. Later old (after p m).net) sum (later-by p have k (count - k) (omega (arith, h))) in
      grown-keeps old all later.grown made.nodes keeps

  steps_with : KeepsFlow (after p count).net.nodes made.nodes → HoldsByRecurrence Restoring p made
  steps_with keep k h inputs t words =
      let s : Stands p have k (after p k) = stands p have k h in
      let old = (base p have).nodes in
      let step = (after p k).net.nodes in
      let there = All-take (IsThere (widths old)) k (numerator p) (numerator-there p have) in
      let n = number-kept old made.nodes base-keeps inputs t (take k (numerator p)) there in
      let b : nat (flow made.nodes inputs (with_magnitudes p).divisor t) ≡ divisor_at p have inputs t =
      ap nat (base-keeps inputs (with_magnitudes p).divisor t (divisor-there p have)) in
      let q = number-kept step made.nodes (step-keeps keep k h) inputs t (after p k).digits s.digits in
      let r = number-kept step made.nodes (step-keeps keep k h) inputs t (after p k).rest s.rest in
      λ some.
      let held = s.right inputs t (for_base inputs (for_start inputs words)) (omega (arith, some, b)) in
      same_division (keeps p k) _ _ _ _ _ _ _ _ (sym n) (sym b) (sym q) (sym r) held

  -- without
  steps_without : KeepsFlow (divided_by Nonrestoring p).net.nodes made.nodes → HoldsByRecurrence Nonrestoring p made
  steps_without keep =
      steps-hold_in (numerator p) (divisor_node p) (base p have) (base-valid p have) (is_divisor p have) (numerator-there p have) p.exact
      made keep (made-inputs ∙ sym (are_magnitudes p have).later.grown.inputs)

  steps_by : (recurrence : Recurrence) → KeepsFlow (divided_by recurrence p).net.nodes made.nodes → HoldsByRecurrence recurrence p made
  steps_by Restoring keep = steps_with keep
  steps_by Nonrestoring keep = steps_without keep

  pub steps_hold : HoldsAfterEachStep p made
  steps_hold = steps_by p.recurrence last-keeps

  -- the dividend and the divisor at a time

  abbrev first_at : Inputs → ℤ → List Bool
  first_at inputs t = input_at inputs 0 p.a.width t

  abbrev second_at : Inputs → ℤ → List Bool
  second_at inputs t = input_at inputs 1 p.b.width t

  numerator-number : (inputs : Inputs) (t : ℤ) → AreFor p have (start p have) inputs
      → numerator_at p have inputs t ≡ size (first_at inputs t) p.a * up (pair_shift p)
  numerator-number inputs t words =
      let nodes = (base p have).nodes in
      let node = (with_magnitudes p).dividend in
      let s = places_up (pair_shift p) in
      let high = bits_from node 0 p.a.width in
      let zeros : List WordBit = replicate s Zero in
      let wide : length (flow nodes inputs node t) ≡ p.a.width =
      flow-width (base p have) (base-valid p have) inputs (for_base inputs words) node t ∙ (are_magnitudes p have).dividend in
      let a : number_at nodes inputs t high ≡ size (first_at inputs t) p.a =
      at-node nodes inputs t node p.a.width wide ∙ (are_magnitudes p have).dividend-number inputs t words in
      let long : 2 ^ length zeros * number_at nodes inputs t high ≡ 2 ^ s * size (first_at inputs t) p.a =
      ap (λ m. 2 ^ m * number_at nodes inputs t high) (length-replicate s Zero) ∙ ap (λ m. 2 ^ s * m) a in
      at-append nodes inputs t high zeros ∙ omega (arith, at-zeros nodes inputs t s, long)

  -- the outputs

  no_output : final.net.outputs ≡ []
  no_output = finished.later.grown.outputs ∙ start-last.grown.outputs

  q_count : length final.digits ≡ (quotient_format p).width
  q_count = finished.count ∙ ap (λ k. k + sign_bit p.a.signed) at_last.count

  r_count : p.exact ≡ true → length final.rest ≡ p.b.width
  r_count exact = finished.rest_count exact ∙ at_last.rest_count exact

  same_ports : (exact : Bool) → p.exact ≡ exact
      → result_ports exact (codes "q") (length final.digits) (length final.rest) ≡ map name_and_width (quotient_ports exact p)
  same_ports false e = ap (λ m. result_ports false (codes "q") m (length final.rest)) q_count
  same_ports true e =
      ap (λ m. result_ports true (codes "q") m (length final.rest)) q_count
      ∙ ap (result_ports true (codes "q") (quotient_format p).width) (r_count e)

  module _ (inputs : Inputs) (t : ℤ) (words : AreFor p have (start p have) inputs) where
    abbrev A : ℕ
    A = size (first_at inputs t) p.a

    abbrev B : ℕ
    B = size (second_at inputs t) p.b

    abbrev S : Bool
    S = p.a.signed && highest (first_at inputs t)

    abbrev T : Bool
    T = p.b.signed && highest (second_at inputs t)

    abbrev quotient_at : ℕ
    quotient_at = number_at last.net.nodes inputs t last.digits

    abbrev rest_at : ℕ
    rest_at = number_at last.net.nodes inputs t last.rest

    words_last : AreFor p have last.net inputs
    words_last = words-later (start p have) last.net start-last inputs words

    words_final : AreFor p have final.net inputs
    words_final = words-later last.net final.net finished.later inputs words_last

    first-kept : flow last.net.nodes inputs 0 t ≡ first_at inputs t
    first-kept = grown-flow (start p have) last.net start-last.grown inputs 0 t (omega arith)

    second-kept : flow last.net.nodes inputs 1 t ≡ second_at inputs t
    second-kept = grown-flow (start p have) last.net start-last.grown inputs 1 t (omega arith)

    divided : 0 < B → IsDivided p.exact (A * up (pair_shift p)) B quotient_at rest_at
    divided some =
        let b = (are_magnitudes p have).divisor-number inputs t words in
        same_division p.exact _ _ _ _ _ _ _ _ (numerator-number inputs t words) b refl refl
        (at_last.right inputs t (for_base inputs words) (omega (arith, some, b)))

    -- the words of the outputs are those of the results
    module _ (exact : Bool) (e : p.exact ≡ exact) (are : AreResults exact final) where
      abbrev net : Net
      net = with_results exact (codes "q") final

      net-valid : IsValid net
      net-valid = results-valid (codes "q") final final-valid exact are

      net-words : AreFor p have net inputs
      net-words =
          subst (λ is. AreFor p have (record net { inputs = is }) inputs) (sym (results-inputs exact (codes "q") final)) words_final

      ports-shown : map shown net.outputs ≡ result_ports exact (codes "q") (length final.digits) (length final.rest)
      ports-shown = results-shown (codes "q") final final-valid no_output exact are

      quotient-word : word_at (result_words net inputs t) 0 ≡ word_flow final.net.nodes inputs final.digits t
      quotient-word =
          same-word (word_at (result_words net inputs t) 0) (word_flow final.net.nodes inputs final.digits t)
          (output-wide net net-valid inputs t net-words _ ports-shown 0
          ∙ first_width exact
          ∙ sym (length-word_flow final.net.nodes inputs t final.digits))
          (results-digits (codes "q") final final-valid no_output inputs t words_final exact are)
        where
          first_width : (c : Bool)
              → slice_index (map (λ (i : List ℕ × ℕ). i.1) (result_ports c (codes "q") (length final.digits) (length final.rest))) 0
              ≡ length final.digits
          first_width true = refl
          first_width false = refl

      quotient-value : val (word_at (result_words net inputs t) 0) (quotient_format p) ≡ with_sign (xor S T) quotient_at
      quotient-value =
          ap (λ v. val v (quotient_format p)) quotient-word
          ∙ finished.quotient inputs t words_last
          ∙ ap (λ v. with_sign (xor (p.a.signed && highest v) (p.b.signed && highest (flow last.net.nodes inputs 1 t))) quotient_at) first-kept
          ∙ ap (λ v. with_sign (xor S (p.b.signed && highest v)) quotient_at) second-kept

    module _ (e : p.exact ≡ true) (are : AreResults true final) where
      abbrev exact_net : Net
      exact_net = with_results true (codes "q") final

      rest-word : word_at (result_words exact_net inputs t) 1 ≡ word_flow final.net.nodes inputs final.rest t
      rest-word =
          same-word (word_at (result_words exact_net inputs t) 1) (word_flow final.net.nodes inputs final.rest t)
          (output-wide exact_net (net-valid true e are) inputs t (net-words true e are) _ (ports-shown true e are) 1
          ∙ sym (length-word_flow final.net.nodes inputs t final.rest))
          (results-rest (codes "q") final final-valid no_output inputs t words_final are)

      -- a remainder is smaller than the divisor, and so leaves the highest bit 0
      rest-low : rest_at < B → p.a.signed ≡ true → 2 * rest_at < 2 ^ length last.rest
      rest-low less signed =
          let long : length (second_at inputs t) ≡ p.b.width =
          flow-width (start p have) (start-valid p have) inputs words 1 t in
          let half = half_size (second_at inputs t) p.b (omega (arith, long, have.some_b)) (sym have.alike ∙ signed) in
          omega (arith, less, half, ap (λ k. 2 ^ k) long, ap (λ k. 2 ^ k) (at_last.rest_count e))

      rest-value : rest_at < B → val (word_at (result_words exact_net inputs t) 1) (remainder_format p) ≡ with_sign S rest_at
      rest-value less =
          ap (λ v. val v (remainder_format p)) rest-word
          ∙ finished.remainder e inputs t words_last (rest-low less)
          ∙ ap (λ v. with_sign (p.a.signed && highest v) rest_at) first-kept

  -- good outputs

  abbrev inputs_now : Inputs → ℕ → (port : ℕ) → Recent
  inputs_now inputs t = recent_words (operator_inputs (Divide p)) inputs t

  first-now : (inputs : Inputs) (t : ℕ) → inputs_now inputs t 0 0
      ≡ with_sign (p.a.signed && highest (first_at inputs (pos t))) (size (first_at inputs (pos t)) p.a)
  first-now inputs t =
      ap (λ u. val (first_at inputs u) p.a) (less-zero t) ∙ by_size (first_at inputs (pos t)) p.a

  second-now : (inputs : Inputs) (t : ℕ) → inputs_now inputs t 1 0
      ≡ with_sign (p.b.signed && highest (second_at inputs (pos t))) (size (second_at inputs (pos t)) p.b)
  second-now inputs t =
      ap (λ u. val (second_at inputs u) p.b) (less-zero t) ∙ by_size (second_at inputs (pos t)) p.b

  abbrev outputs_now : (exact : Bool) → Inputs → ℕ → (port : ℕ) → ℤ
  outputs_now exact inputs t = output_words (quotient_ports exact p) (result_words (with_results exact (codes "q") final) inputs (pos t))

  good : (exact : Bool) → p.exact ≡ exact → AreResults exact final
      → (inputs : Inputs) (t : ℕ) → AreFor p have (start p have) inputs → inputs_now inputs t 1 0 ≢ pos 0
      → IsGoodQuotient exact p (inputs_now inputs t 0 0) (inputs_now inputs t 1 0) (outputs_now exact inputs t 0)
      (outputs_now exact inputs t 1)
  good true e are inputs t words range =
      let u = pos t in
      let s = S inputs u words in
      let d = T inputs u words in
      let a = A inputs u words in
      let b = B inputs u words in
      let q = quotient_at inputs u words in
      let r = rest_at inputs u words in
      let some = some_size d b (inputs_now inputs t 1 0) (second-now inputs t) range in
      let held = kept_rest p.exact _ _ _ _ e (divided inputs u words some) in
      let first = quotient-value inputs u words true e are in
      let second = rest-value inputs u words e are held.1 in
      subst (λ z. IsGoodQuotient true p z (inputs_now inputs t 1 0) (outputs_now true inputs t 0) (outputs_now true inputs t 1))
      (sym (first-now inputs t))
      (two_shown (IsGoodQuotient true p (with_sign s a)) (second-now inputs t) first second (good_of_sizes true p s d a b q r held))
  good false e are inputs t words range =
      let u = pos t in
      let s = S inputs u words in
      let d = T inputs u words in
      let a = A inputs u words in
      let b = B inputs u words in
      let q = quotient_at inputs u words in
      let some = some_size d b (inputs_now inputs t 1 0) (second-now inputs t) range in
      let held = some_rest p.exact _ _ _ _ (divided inputs u words some) in
      let first = quotient-value inputs u words false e are in
      let second = outputs_now false inputs t 1 in
      subst (λ z. IsGoodQuotient false p z (inputs_now inputs t 1 0) (outputs_now false inputs t 0) second) (sym (first-now inputs t))
      (one_shown (λ z y. IsGoodQuotient false p (with_sign s a) z y second) (second-now inputs t) first
      (good_of_sizes false p s d a b q held.0 held.1))

  pub fits : FitsOperator (mode_of_exact p.exact) (Divide p) made
  fits = record {
    valid = results-valid (codes "q") final final-valid p.exact results;
    inputs = made-inputs;
    outputs = results-shown (codes "q") final final-valid no_output p.exact results ∙ same_ports p.exact refl;
    delays =
        let none : delay_count (start p have).nodes ≡ 0 = refl in
        passes-count 0 made.nodes
        (omega (arith, results-delays (codes "q") final final-valid p.exact results, finished.later.grown.delays, start-last.grown.delays, none));
    good = λ inputs t words within range.
        good_by_mark p.exact
        (λ e. IsGoodQuotient e p (inputs_now inputs t 0 0) (inputs_now inputs t 1 0) (outputs_now p.exact inputs t 0) (outputs_now p.exact inputs t 1))
        (good p.exact refl results inputs t (for_start inputs words) range);
  }

pub fits_modes : (p : Pair) → IsAcceptedPair p → FitsInEachMode (Divide p) (net_of_pair p)
fits_modes p is = fits_by_mark (mode_of_exact p.exact) (Divide p) (net_of_pair p) refl (fits p (has_widths p is))

pub all_steps : (p : Pair) → IsAcceptedPair p → HoldsAfterEachStep p (net_of_pair p)
all_steps p is = steps_hold p (has_widths p is)

pub all_sizes : (p : Pair) → IsAcceptedPair p → DividesSizes p (net_of_pair p)
all_sizes p is = sizes_hold p (has_widths p is)
