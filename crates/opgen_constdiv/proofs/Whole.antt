-- The net of a division by a small constant: it is valid, its digits are right, and its outputs are good.
use Rattle.std.proofs.Common.{◌≡◌, ℕ, zero, suc, ◌+◌, ◌-◌, ◌*◌, ◌^◌, ◌<◌, ◌≤◌, Bool, true, false, List, [], ◌∷◌, ◌++◌, length, map, take, drop, replicate, refl, sym, ap, ◌∙◌, subst, arith, codes}
use Rattle.std.specs.Prelude.{ℤ, All, slice_index}
use Rattle.std.proofs.Math.Nat.{mul-le-mul_left}
use Rattle.std.proofs.Math.Seq.{take-length}
use Rattle.std.proofs.lemmas.List.{length-drop, take-append-drop}
use Rattle.std.proofs.lemmas.List.Elements.{All-drop, All-take}
use Rattle.opgen_num.specs.Rounding.{IsQuotient}
use Rattle.opgen_num.specs.Words.{nat}
use Rattle.opgen_num.proofs.Words.{nat-below}
use Rattle.opgen_design.specs.Run.{AreWords}
use Rattle.opgen_design.specs.Value.{word_at, cut, IsWidth}
use Rattle.opgen_digits.proofs.Outputs.{made-later, output-valid, output-keeps, output-number}
use Rattle.opgen_net.specs.declared.net.Net.{Net}
use Rattle.opgen_net.specs.declared.net.Output.{Output}
use Rattle.opgen_net.specs.declared.word_bits.WordBit.{WordBit}
use Rattle.opgen_net.specs.declared.word_bits.WordBit.TheVariants.{Zero}
use Rattle.opgen_net.specs.Delays.{delay_count, PassesAtMost}
use Rattle.opgen_net.specs.Flow.{Inputs, flow, slice_flow, input_at, KeepsFlow}
use Rattle.opgen_net.specs.Placed.{number_at, with_bits, whole}
use Rattle.opgen_net.specs.Valid.{widths, input_widths, slice_width, IsValid, LiesWithin}
use Rattle.opgen_net.specs.WordRule.{IsThere, bits_from}
use Rattle.opgen_net.proofs.Appending.{valid-output}
use Rattle.opgen_net.proofs.BitLists.{bits_from-flow}
use Rattle.opgen_net.proofs.Delays.{passes-count}
use Rattle.opgen_net.proofs.FlowWidths.{flow-width}
use Rattle.opgen_net.proofs.Grown.{grown-keeps, grown-width}
use Rattle.opgen_net.proofs.Later.{Later, node_there, words-later}
use Rattle.opgen_net.proofs.Numbers.{at-append, at-zeros, at-node, number-kept}
use Rattle.opgen_net.proofs.Standing.{whole-width}
use Rattle.opgen_constdiv.specs.Rows.{IsSmall, rest_width, digit_width}
use Rattle.opgen_constdiv.specs.Recipe.{digit_number, dividend, Divided, after, with_quotient, with_results, net_of}
use Rattle.opgen_constdiv.specs.Steps.{IsInput, HoldsAfterEachDigit}
use Rattle.opgen_constdiv.proofs.TableRows.{rest-some, rest-few}
use Rattle.opgen_constdiv.proofs.Division.{base, Stands, stands, later-by, input-valid, digits-enough, dividend-length, dividend-there}

abbrev pub shown : Output → List ℕ × ℕ
shown o = (o.name, slice_width o.from)

some-factor : (n a w : ℕ) → 1 ≤ w → w ≤ n * a → 1 ≤ n
some-factor zero a w h l = absurd (omega (arith, h, l))
some-factor (suc n) a w h l = omega arith

-- bits above those that have all of a number are zeros
low-part : (high low q w : ℕ) → q ≡ low + 2 ^ w * high → q < 2 ^ w → low ≡ q
low-part zero low q w e h = omega (arith, e)
low-part (suc k) low q w e h =
    let more : 2 ^ w * 1 ≤ 2 ^ w * suc k = mul-le-mul_left (2 ^ w) (omega arith) in
    absurd (omega (arith, e, h, more))

-- a quotient is no greater than its dividend
quotient-least : (x c q r : ℕ) → 1 ≤ c → IsQuotient x c q r → q ≤ x
quotient-least x c q r some h =
    let more : q * 1 ≤ q * c = mul-le-mul_left q some in
    omega (arith, h.0, more)

module _ (w c : ℕ) (input : IsInput w) (small : IsSmall c) where
  abbrev count : ℕ
  count = digit_number w c

  abbrev pub last : Divided
  last = after w c count

  abbrev start : Net
  start = base w c input small

  abbrev Are : Net → Inputs → Type 0
  Are net inputs = All (AreWords (input_widths net)) inputs

  pub at_last : Stands w c input small count last
  at_last = stands w c input small count (omega arith)

  some-digit : 1 ≤ count
  some-digit = some-factor count (digit_width c) w input.some (digits-enough w c input small)

  -- the lowest bits of the quotient
  abbrev lowest : List WordBit
  lowest = drop (length last.quotient - w) last.quotient

  pub enough : w ≤ length last.quotient
  enough = omega (arith, at_last.count, digits-enough w c input small)

  pub lowest-length : length lowest ≡ w
  lowest-length = omega (arith, length-drop (length last.quotient - w) last.quotient, enough)

  pub lowest-wide : IsWidth (length lowest)
  lowest-wide = (omega (arith, lowest-length, input.some), omega (arith, lowest-length, input.few))

  pub lowest-there : All (IsThere (widths last.net.nodes)) lowest
  lowest-there = All-drop (IsThere (widths last.net.nodes)) (length last.quotient - w) last.quotient at_last.quotient

  abbrev one : Net
  one = with_quotient w last

  pub one-valid : IsValid one
  one-valid = output-valid last.net at_last.later.valid lowest lowest-wide lowest-there (codes "q")

  one-keeps : KeepsFlow last.net.nodes one.nodes
  one-keeps = output-keeps last.net at_last.later.valid lowest lowest-wide lowest-there (codes "q")

  placed-later : Later last.net (with_bits last.net lowest).net
  placed-later = made-later last.net at_last.later.valid lowest lowest-wide lowest-there

  no-delays : delay_count one.nodes ≤ 0
  no-delays =
      let none : delay_count start.nodes ≡ 0 = refl in omega (arith, placed-later.grown.delays, at_last.later.grown.delays, none)

  -- the last table
  pub table-wide : slice_index (widths last.net.nodes) last.table ≡ 6
  table-wide = (at_last.last some-digit).0

  table-there : last.table < length last.net.nodes
  table-there = node_there last.net last.table 6 (omega arith) table-wide

  pub rest-lies : LiesWithin (widths one.nodes) (whole (rest_width c) last.table)
  rest-lies =
      let wide : slice_index (widths one.nodes) last.table ≡ 6 =
      grown-width last.net (with_bits last.net lowest).net placed-later.grown last.table table-there ∙ table-wide in
      (omega arith, omega (arith, wide, rest-some c small, rest-few c small))

  abbrev rest_output : Output
  rest_output = record { name = codes "r"; from = whole (rest_width c) last.table }

  abbrev quotient_output : Output
  quotient_output = record { name = codes "q"; from = whole (length lowest) (with_bits last.net lowest).place }

  pub results-valid : (exact : Bool) → IsValid (with_results exact w c last)
  results-valid true = valid-output one rest_output one-valid rest-lies
  results-valid false = one-valid

  results-keep : (exact : Bool) → KeepsFlow last.net.nodes (with_results exact w c last).nodes
  results-keep true = one-keeps
  results-keep false = one-keeps

  pub made-inputs : (exact : Bool) → (net_of exact w c).inputs ≡ start.inputs
  made-inputs true = at_last.later.grown.inputs
  made-inputs false = at_last.later.grown.inputs

  -- no node is a delay
  pub made-passes : (exact : Bool) → PassesAtMost 0 (net_of exact w c).nodes
  made-passes true = passes-count 0 one.nodes no-delays
  made-passes false = passes-count 0 one.nodes no-delays

  pub for_inputs : (exact : Bool) (inputs : Inputs) → Are (net_of exact w c) inputs → Are start inputs
  for_inputs exact inputs words = subst (λ is. Are (record (net_of exact w c) { inputs = is }) inputs) (made-inputs exact) words

  -- the nodes after a digit keep their words
  step-keeps : (exact : Bool) (k : ℕ) → k ≤ count → KeepsFlow (after w c k).net.nodes (net_of exact w c).nodes
  step-keeps exact k h =
      let old = (after w c k).net in
      let all : k + (count - k) ≡ count = omega (arith, h) in
      let later : Later old last.net = subst (λ m. Later old (after w c m).net) all
      (later-by w c input small k (count - k) (omega (arith, h))) in
      grown-keeps old last.net later.grown (net_of exact w c).nodes (results-keep exact)

  pub digits_hold : (exact : Bool) → HoldsAfterEachDigit w c (net_of exact w c)
  digits_hold exact k h inputs t words =
      let made = (net_of exact w c).nodes in
      let s : Stands w c input small k (after w c k) = stands w c input small k h in
      let old = start.nodes in
      let step = (after w c k).net.nodes in
      let bits = take (k * digit_width c) (dividend w c) in
      let there = All-take (IsThere (widths old)) (k * digit_width c) (dividend w c) (dividend-there w c input small) in
      let n = number-kept old made (step-keeps exact 0 (omega arith)) inputs t bits there in
      let q = number-kept step made (step-keeps exact k h) inputs t (after w c k).quotient s.quotient in
      let r = number-kept step made (step-keeps exact k h) inputs t (after w c k).rest s.rest in
      same-quotient _ _ _ _ _ _ c (sym n) (sym q) (sym r) (s.right inputs t (for_inputs exact inputs words))
    where
      same-quotient : (n m q p r z c : ℕ) → n ≡ m → q ≡ p → r ≡ z → IsQuotient n c q r → IsQuotient m c p z
      same-quotient n m q p r z c e f g h = (omega (arith, e, g, h.0, ap (λ k. k * c) f), omega (arith, g, h.1))

  -- the numbers of the outputs
  module _ (inputs : Inputs) (t : ℤ) (words : Are start inputs) where
    abbrev x : ℕ
    x = nat (input_at inputs 0 w t)

    abbrev q : ℕ
    q = number_at last.net.nodes inputs t last.quotient

    abbrev r : ℕ
    r = number_at last.net.nodes inputs t last.rest

    words_last : Are last.net inputs
    words_last = words-later start last.net at_last.later inputs words

    input-wide : length (flow start.nodes inputs 0 t) ≡ w
    input-wide = flow-width start (input-valid w c input small) inputs words 0 t

    dividend-number : number_at start.nodes inputs t (take (count * digit_width c) (dividend w c)) ≡ x
    dividend-number =
        let n = count * digit_width c - w in
        let zeros : List WordBit = replicate n Zero in
        let all : take (count * digit_width c) (dividend w c) ≡ dividend w c =
        ap (λ m. take m (dividend w c)) (sym (dividend-length w c input small)) ∙ take-length (dividend w c) in
        let none : 2 ^ length (bits_from 0 0 w) * number_at start.nodes inputs t zeros ≡ 0 =
        ap (λ m. 2 ^ length (bits_from 0 0 w) * m) (at-zeros start.nodes inputs t n) ∙ omega arith in
        ap (number_at start.nodes inputs t) all
        ∙ at-append start.nodes inputs t zeros (bits_from 0 0 w)
        ∙ omega (arith, none, at-node start.nodes inputs t 0 w input-wide)

    pub divided-right : IsQuotient x c q r
    divided-right = subst (λ m. IsQuotient m c q r) dividend-number (at_last.right inputs t words)

    input-below : x < 2 ^ w
    input-below = subst (λ m. x < 2 ^ m) input-wide (nat-below (flow start.nodes inputs 0 t))

    lowest-number : number_at last.net.nodes inputs t lowest ≡ q
    lowest-number =
        let m = length last.quotient - w in
        let front = take m last.quotient in
        let parts : q ≡ number_at last.net.nodes inputs t lowest + 2 ^ w * number_at last.net.nodes inputs t front =
        ap (number_at last.net.nodes inputs t) (sym (take-append-drop m last.quotient))
        ∙ at-append last.net.nodes inputs t front lowest
        ∙ ap (λ k. number_at last.net.nodes inputs t lowest + 2 ^ k * number_at last.net.nodes inputs t front) lowest-length in
        low-part (number_at last.net.nodes inputs t front) (number_at last.net.nodes inputs t lowest) q w parts
        (omega (arith, input-below, quotient-least x c q r (omega (arith, small.some)) divided-right))

    pub quotient-shown : nat (slice_flow one.nodes inputs quotient_output.from t) ≡ q
    quotient-shown =
        output-number last.net at_last.later.valid lowest lowest-wide lowest-there (codes "q") inputs t words_last ∙ lowest-number

    pub rest-shown : nat (slice_flow one.nodes inputs rest_output.from t) ≡ r
    rest-shown =
        let v = flow last.net.nodes inputs last.table t in
        let wide : length v ≡ 6 = flow-width last.net at_last.later.valid inputs words_last last.table t ∙ table-wide in
        let e : rest_width c - 1 + 1 - 0 ≡ rest_width c = omega (arith, rest-some c small) in
        ap (λ u. nat (cut (rest_width c - 1) 0 u)) (one-keeps inputs last.table t table-there)
        ∙ ap (λ m. nat (take m v)) e
        ∙ sym (ap nat (bits_from-flow last.net.nodes inputs t last.table 0 (rest_width c) (omega (arith, wide, rest-few c small))))
        ∙ ap (number_at last.net.nodes inputs t) (sym (at_last.last some-digit).1)

  -- they are the only outputs
  no_output : last.net.outputs ≡ []
  no_output = at_last.later.grown.outputs

  pub outputs-one : (with_results false w c last).outputs ≡ quotient_output ∷ []
  outputs-one = ap (λ os. os ++ quotient_output ∷ []) no_output

  pub outputs-two : (with_results true w c last).outputs ≡ quotient_output ∷ rest_output ∷ []
  outputs-two = ap (λ os. os ++ rest_output ∷ []) outputs-one

  abbrev pub output_ports : (exact : Bool) → List (List ℕ × ℕ)
  output_ports true = (codes "q", w) ∷ (codes "r", rest_width c) ∷ []
  output_ports false = (codes "q", w) ∷ []

  pub outputs-shown : (exact : Bool) → map shown (net_of exact w c).outputs ≡ output_ports exact
  outputs-shown true =
      ap (map shown) outputs-two
      ∙ ap (λ m. (codes "q", m) ∷ shown rest_output ∷ []) (whole-width (length lowest) quotient_output.from.node lowest-wide.0 ∙ lowest-length)
      ∙ ap (λ m. (codes "q", w) ∷ (codes "r", m) ∷ []) (whole-width (rest_width c) last.table (rest-some c small))
  outputs-shown false =
      ap (map shown) outputs-one
      ∙ ap (λ m. (codes "q", m) ∷ []) (whole-width (length lowest) quotient_output.from.node lowest-wide.0 ∙ lowest-length)

  abbrev pub result_words : (exact : Bool) → Inputs → ℤ → List (List Bool)
  result_words exact inputs t = map (λ o. slice_flow (net_of exact w c).nodes inputs o.from t) (net_of exact w c).outputs

  pub quotient-word : (exact : Bool) (inputs : Inputs) (t : ℤ) (words : Are start inputs)
      → nat (word_at (result_words exact inputs t) 0) ≡ number_at last.net.nodes inputs t last.quotient
  quotient-word true inputs t words =
      ap (λ os. nat (word_at (map (λ (o : Output). slice_flow one.nodes inputs o.from t) os) 0)) outputs-two ∙ quotient-shown inputs t words
  quotient-word false inputs t words =
      ap (λ os. nat (word_at (map (λ (o : Output). slice_flow one.nodes inputs o.from t) os) 0)) outputs-one ∙ quotient-shown inputs t words

  pub rest-word : (inputs : Inputs) (t : ℤ) (words : Are start inputs)
      → nat (word_at (result_words true inputs t) 1) ≡ number_at last.net.nodes inputs t last.rest
  rest-word inputs t words =
      ap (λ os. nat (word_at (map (λ (o : Output). slice_flow one.nodes inputs o.from t) os) 1)) outputs-two ∙ rest-shown inputs t words
