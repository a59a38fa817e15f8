-- A slice, and the only output of a net, in another format.
use Rattle.std.proofs.Common.{◌≡◌, ℕ, List, [], ◌∷◌, ◌++◌, length, map, take, drop, refl, sym, ap, ◌∙◌, subst, arith}
use Rattle.std.specs.Prelude.{ℤ, All, slice_index}
use Rattle.std.proofs.lemmas.List.Elements.{All-head, All-nil}
use Rattle.opgen_num.specs.declared.format.Format.{Format}
use Rattle.opgen_num.specs.declared.mode.Overflow.{Overflow}
use Rattle.opgen_num.specs.Formats.{Holds, IsWidthOf}
use Rattle.opgen_num.specs.Words.{val}
use Rattle.opgen_design.specs.declared.expr.Slice.{Slice}
use Rattle.opgen_design.specs.Run.{AreWords}
use Rattle.opgen_design.specs.Value.{IsWidth}
use Rattle.opgen_net.specs.declared.net.Net.{Net}
use Rattle.opgen_net.specs.declared.net.Output.{Output}
use Rattle.opgen_net.specs.declared.word_bits.WordBit.{WordBit}
use Rattle.opgen_net.specs.Delays.{PassesAtMost}
use Rattle.opgen_net.specs.Flow.{Inputs, flow, slice_flow}
use Rattle.opgen_net.specs.Placed.{Placed, with_bits, whole}
use Rattle.opgen_net.specs.Valid.{IsValid, LiesWithin, input_widths, slice_width, widths}
use Rattle.opgen_net.specs.WordRule.{IsThere, bits_from}
use Rattle.opgen_net.proofs.Appending.{valid-output}
use Rattle.opgen_net.proofs.BitLists.{length-bits_from, bits_from-there, bits_from-flow}
use Rattle.opgen_net.proofs.FlowWidths.{flow-width}
use Rattle.opgen_net.proofs.Grown.{grown-passes}
use Rattle.opgen_net.proofs.Later.{Later, later-then, bits-later, words-later}
use Rattle.opgen_net.proofs.WordLaws.{word-has_bits, word-found_width, all-bits}
use Rattle.opgen_saturate.specs.Output.{AreOutputFormats, with_slice, converted_output, converted_outputs, converted_net, first_word, port_of, port_in, ConvertsOutput}
use Rattle.opgen_ports.proofs.InputPorts.{some_bits}
use Rattle.opgen_saturate.specs.Converts.{AreFormats, Becomes}
use Rattle.opgen_saturate.proofs.Lowest.{Made, node-held}
use Rattle.opgen_saturate.proofs.Whole.{all_made}

module _ (overflow : Overflow) (net : Net) (from : Slice) (format to : Format) (valid : IsValid net) (lies : LiesWithin (widths net.nodes) from)
    (wide : slice_width from ≡ format.width) (from_width : IsWidthOf format.signed format.width)
    (to_width : IsWidthOf to.signed to.width) where
  abbrev given : List WordBit
  given = bits_from from.node from.low format.width

  abbrev first : Placed
  first = with_bits net given

  pub bits-there : All (IsThere (widths net.nodes)) given
  bits-there = bits_from-there (widths net.nodes) from.node from.low format.width (omega (arith, lies.0, lies.1, wide))

  pub bits-wide : IsWidth (length given)
  bits-wide =
      subst IsWidth (sym (length-bits_from from.node from.low format.width)) (some_bits format.signed format.width from_width.0, from_width.1)

  first-later : Later net first.net
  first-later = bits-later net valid given bits-wide bits-there

  pub first-are : AreFormats first.net first.place format to
  first-are = record {
    from_width = from_width;
    to_width = to_width;
    wide = word-found_width net valid given bits-there ∙ length-bits_from from.node from.low format.width;
  }

  abbrev made : Placed
  made = with_slice overflow from format to net

  all : Made overflow first.net first.place format to made
  all = all_made overflow first.net first.place format to first-later.valid first-are

  pub slice-later : Later net made.net
  slice-later = later-then net first.net made.net first-later all.later

  pub slice-width : slice_index (widths made.net.nodes) made.place ≡ to.width
  slice-width = all.converts.width

  pub slice-lies : LiesWithin (widths made.net.nodes) (whole to.width made.place)
  slice-lies = (omega arith, omega (arith, slice-width, some_bits to.signed to.width to_width.0))

  module _ (inputs : Inputs) (t : ℤ) (words : All (AreWords (input_widths net)) inputs) where
    first-flow : flow first.net.nodes inputs first.place t ≡ slice_flow net.nodes inputs from t
    first-flow =
        word-has_bits net valid given bits-there inputs t words
        ∙ bits_from-flow net.nodes inputs t from.node from.low format.width
        (omega (arith, lies.0, lies.1, wide, flow-width net valid inputs words from.node t))
        ∙ ap (λ n. take n (drop from.low (flow net.nodes inputs from.node t))) (sym wide)

    later-words : All (AreWords (input_widths first.net)) inputs
    later-words = words-later net first.net first-later inputs words

    -- the slice has a number of its format
    pub slice-held : Holds format.signed format.width (val (slice_flow net.nodes inputs from t) format)
    slice-held =
        subst (λ w. Holds format.signed format.width (val w format)) first-flow
        (node-held first.net first.place format to first-later.valid first-are inputs t later-words)

    pub slice-number : Becomes overflow to (val (slice_flow net.nodes inputs from t) format)
        (val (slice_flow made.net.nodes inputs (whole to.width made.place) t) to)
    slice-number =
        let v = flow made.net.nodes inputs made.place t in
        let old = val (slice_flow net.nodes inputs from t) format in
        let long : length v ≡ to.width = flow-width made.net slice-later.valid inputs (words-later net made.net slice-later inputs words) made.place t
        ∙ slice-width in
        subst (λ w. Becomes overflow to old (val w to)) (sym (all-bits v to.width (some_bits to.signed to.width to_width.0) long))
        (subst (λ w. Becomes overflow to (val w format) (val v to)) first-flow (all.converts.number inputs t later-words))

abbrev one_port : List ℕ → ℕ → List (List ℕ × ℕ)
one_port name width = (name, width) ∷ []

-- the net without its output
abbrev pub bare : Net → Net
bare net = record net { outputs = [] }

pub bare-valid : (net : Net) → IsValid net → IsValid (bare net)
bare-valid net valid = record { nodes = valid.nodes; inputs = valid.inputs; outputs = All-nil (λ o. LiesWithin (widths net.nodes) o.from) }

module _ (overflow : Overflow) (net : Net) (o : Output) (format to : Format) (valid : IsValid net) (lies : LiesWithin (widths net.nodes) o.from)
    (wide : slice_width o.from ≡ format.width) (from_width : IsWidthOf format.signed format.width)
    (to_width : IsWidthOf to.signed to.width) where
  abbrev base : Net
  base = bare net

  abbrev shown : Net
  shown = converted_output overflow o format to base

  abbrev step : Placed
  step = with_slice overflow o.from format to base

  later : Later base step.net
  later = slice-later overflow base o.from format to (bare-valid net valid) lies wide from_width to_width

  pub shown-valid : IsValid shown
  shown-valid =
      valid-output step.net (record { name = o.name; from = whole to.width step.place }) later.valid
      (slice-lies overflow base o.from format to (bare-valid net valid) lies wide from_width to_width)

  pub shown-passes : (most : ℕ) → PassesAtMost most net.nodes → PassesAtMost most shown.nodes
  shown-passes = grown-passes base step.net later.grown

  outputs-are : shown.outputs ≡ record { name = o.name; from = whole to.width step.place } ∷ []
  outputs-are = ap (λ os. os ++ record { name = o.name; from = whole to.width step.place } ∷ []) later.grown.outputs

  pub shown-converts : net.outputs ≡ o ∷ [] → ConvertsOutput overflow net format to shown
  shown-converts only = record {
    inputs = later.grown.inputs;
    outputs =
        let width : slice_width (whole to.width step.place) ≡ to.width = omega (arith, some_bits to.signed to.width to_width.0) in
        ap (map port_of) outputs-are
        ∙ ap (one_port o.name) width
        ∙ ap (map (port_in to)) (sym only);
    number = λ inputs t words.
        let word = λ (n : Net) (os : List Output). first_word (record n { outputs = os }) inputs t in
        subst (λ os. Becomes overflow to (val (word net os) format) (val (word shown shown.outputs) to)) (sym only)
        (subst (λ os. Becomes overflow to (val (word net (o ∷ [])) format) (val (word shown os) to)) (sym outputs-are)
        (slice-number overflow base o.from format to (bare-valid net valid) lies wide from_width to_width inputs t words));
  }

  pub shown-held : net.outputs ≡ o ∷ [] → (inputs : Inputs) (t : ℤ) → All (AreWords (input_widths net)) inputs
      → Holds format.signed format.width (val (first_word net inputs t) format)
  shown-held only inputs t words =
      subst (λ os. Holds format.signed format.width (val (first_word (record net { outputs = os }) inputs t) format)) (sym only)
      (slice-held overflow base o.from format to (bare-valid net valid) lies wide from_width to_width inputs t words)

-- a net with one output, which has a number of its format
pub record IsConverted (overflow : Overflow) (net : Net) (format to : Format) (made : Net) : Type 0 where
  pub valid : IsValid made
  pub passes : (most : ℕ) → PassesAtMost most net.nodes → PassesAtMost most made.nodes
  pub converts : ConvertsOutput overflow net format to made
  pub held :
      (inputs : Inputs) (t : ℤ) → All (AreWords (input_widths net)) inputs
      → Holds format.signed format.width (val (first_word net inputs t) format)

pub net_converted : (overflow : Overflow) (net : Net) (format to : Format) → IsValid net → AreOutputFormats net format to
    → IsConverted overflow net format to (converted_net overflow format to net)
net_converted overflow net format to valid are = go net.outputs refl are.one are.wide valid.outputs
  where
    go : (os : List Output) → net.outputs ≡ os → length os ≡ 1 → All (λ o. slice_width o.from ≡ format.width) os
        → All (λ o. LiesWithin (widths net.nodes) o.from) os → IsConverted overflow net format to (converted_outputs overflow os format to net)
    go [] e one wide lies = absurd (omega (arith, one))
    go (o ∷ p ∷ os) e one wide lies = absurd (omega (arith, one))
    go (o ∷ []) e one wide lies =
        let width = All-head (λ p. slice_width p.from ≡ format.width) o [] wide in
        let within = All-head (λ p. LiesWithin (widths net.nodes) p.from) o [] lies in
        record {
          valid = shown-valid overflow net o format to valid within width are.from_width are.to_width;
          passes = shown-passes overflow net o format to valid within width are.from_width are.to_width;
          converts = shown-converts overflow net o format to valid within width are.from_width are.to_width e;
          held = shown-held overflow net o format to valid within width are.from_width are.to_width e;
        }
