-- The net of an operator fits the specification once its output has the width that is chosen.
use Rattle.std.proofs.Common.{◌≡◌, ℕ, ◌<◌, Option, Some, None, List, [], ◌∷◌, get_or, length, map, refl, sym, ap, ◌∙◌, subst}
use Rattle.std.proofs.lemmas.List.Elements.{All-nil, All-cons}
use Rattle.std.specs.Prelude.{pos, codes, All}
use Rattle.opgen_design.specs.Run.{AreWords}
use Rattle.opgen_net.specs.declared.net.Net.{Net}
use Rattle.opgen_net.specs.declared.net.Output.{Output}
use Rattle.opgen_net.specs.Flow.{Inputs, slice_flow}
use Rattle.opgen_net.specs.Valid.{input_widths, slice_width}
use Rattle.opgen_num.specs.declared.format.Format.{Format}
use Rattle.opgen_num.specs.Formats.{Holds}
use Rattle.opgen_num.specs.Words.{val}
use Rattle.opgen_operator.specs.declared.spec.Spec.{Spec}
use Rattle.opgen_operator.specs.Fits.{FitsInEachMode, FitsOperator, FitsSpec, name_and_width}
use Rattle.opgen_operator.specs.Operator.{operator_outputs, memory, plain_output, exact_value, IsGoodOf}
use Rattle.opgen_operator.specs.Outputs.{inputs_of, outputs_of, IsGood, IsGoodBy, IsGoodCut, IsInRange, mode_of, recent_words, output_words}
use Rattle.opgen_operator.specs.Valid.{IsValidSpec}
use Rattle.opgen_operator.proofs.Operators.{only_output, plain_is, some_value, value_good, value_positive}
use Rattle.opgen_operator.proofs.Valued.{choice, outputs_are, plain_width, to_width}
use Rattle.opgen_ports.specs.Ports.{format_at, port}
use Rattle.opgen_ports.specs.Good.{IsGoodChosen}
use Rattle.opgen_saturate.specs.Chosen.{cut_by, cut_net}
use Rattle.opgen_saturate.specs.Output.{AreOutputFormats, converted_net, first_word, port_in}
use Rattle.opgen_operator.proofs.Accepted.{accepted, plain_fits}
use Rattle.opgen_saturate.proofs.Law.{keeps_chosen}
use Rattle.opgen_saturate.proofs.Slices.{IsConverted, net_converted}

abbrev one_port : (name : List ℕ) (width : ℕ) → List (List ℕ × ℕ)
one_port name width = (name, width) ∷ []

-- a net whose outputs are one of this name and width
pub record IsOneOutput (name : List ℕ) (width : ℕ) (os : List Output) : Type 0 where
  pub one : length os ≡ 1
  pub wide : All (λ o. slice_width o.from ≡ width) os
  pub other : (to : Format) → map (port_in to) os ≡ one_port name to.width

one_output : (name : List ℕ) (width : ℕ) (os : List Output) → map (λ (o : Output). (o.name, slice_width o.from)) os ≡ one_port name width
    → IsOneOutput name width os
one_output name width [] e = absurd cc
one_output name width (o ∷ p ∷ os) e = absurd cc
one_output name width (o ∷ []) e =
    let same_name : o.name ≡ name = ap (λ (ps : List (List ℕ × ℕ)). (get_or ps 0 ([], 0)).0) e in
    let same_width : slice_width o.from ≡ width = ap (λ (ps : List (List ℕ × ℕ)). (get_or ps 0 ([], 0)).1) e in
    record {
      one = refl;
      wide = All-cons (λ (p : Output). slice_width p.from ≡ width) o [] same_width (All-nil (λ (p : Output). slice_width p.from ≡ width));
      other = λ to. ap (λ (n : List ℕ). one_port n to.width) same_name;
    }

module _ (spec : Spec) (net : Net) (valid : IsValidSpec spec) (fits : FitsOperator (mode_of spec) spec.op net)
    (width : ℕ) (is : spec.out_width ≡ Some width) where
  abbrev pub from : Format
  from = format_at (operator_outputs spec.op) 0

  abbrev pub to : Format
  to = format_at (outputs_of spec) 0

  alone : IsOneOutput (codes "y") from.width net.outputs
  alone = one_output (codes "y") from.width net.outputs (fits.outputs ∙ ap (map name_and_width) (only_output spec.op (choice spec valid width is).1))

  formats : AreOutputFormats net from to
  formats = record {
    one = alone.one;
    wide = alone.wide;
    from_width = plain_width spec.op (accepted spec valid) (choice spec valid width is).1;
    to_width = to_width spec valid width is;
  }

  abbrev pub made : Net
  made = converted_net spec.overflow from to net

  all : IsConverted spec.overflow net from to made
  all = net_converted spec.overflow net from to fits.valid formats

  cut_good : (inputs : Inputs) (t : ℕ) → All (AreWords (input_widths made)) inputs → t < length inputs
      → IsInRange spec (recent_words (inputs_of spec) inputs t)
      → IsGood spec (recent_words (inputs_of spec) inputs t)
      (output_words (outputs_of spec) (map (λ o. slice_flow made.nodes inputs o.from (pos t)) made.outputs))
  cut_good inputs t words below in_range =
      let ins = recent_words (inputs_of spec) inputs t in
      let plain = output_words (operator_outputs spec.op) (map (λ o. slice_flow net.nodes inputs o.from (pos t)) net.outputs) in
      let before : All (AreWords (input_widths net)) inputs =
      subst (λ is. All (AreWords (map (λ (i : List ℕ × ℕ). i.1) is)) inputs) all.converts.inputs words in
      let good : IsGoodOf (mode_of spec) spec.op ins plain = fits.good inputs t before below in_range in
      let (v, value) = some_value spec.op ins (choice spec valid width is).1 in
      let rated = value_good (mode_of spec) spec.op ins plain v valid.mode.agrees value good in
      let some = value_positive spec.op ins v valid.op.ranges in_range value in
      let y = val (first_word made inputs (pos t)) to in
      let held : Holds from.signed from.width (plain 0) = all.held inputs (pos t) before in
      let kept : IsGoodChosen spec.overflow (mode_of spec) from to v.num v.den y =
      keeps_chosen spec.overflow (mode_of spec) from to v.num v.den (plain 0) y some rated held (all.converts.number inputs (pos t) before) in
      let chosen : IsGoodCut spec.overflow (mode_of spec) from to (exact_value spec.op ins) y =
      subst (λ o. IsGoodCut spec.overflow (mode_of spec) from to o y) (sym value) kept in
      subst (λ w. IsGoodBy w spec ins (output_words (outputs_of spec) (map (λ o. slice_flow made.nodes inputs o.from (pos t)) made.outputs)))
      (sym is) chosen

  pub converted_fits : FitsSpec spec made
  converted_fits = record {
    valid = all.valid;
    inputs = all.converts.inputs ∙ fits.inputs;
    outputs = all.converts.outputs ∙ alone.other to ∙ sym (ap (map name_and_width) (outputs_are spec valid width is));
    delays = all.passes (memory spec.op) fits.delays;
    good = cut_good;
  }

-- the formats that a specification's cut has
module _ (spec : Spec) (net : Net) (valid : IsValidSpec spec) (each : FitsInEachMode spec.op net) (from to : Format)
    (some : spec.out_width ≡ None → ⊥) (plain : plain_output spec.op ≡ Some from) (outs : outputs_of spec ≡ port (codes "y") to ∷ []) where
  to_same : format_at (outputs_of spec) 0 ≡ to
  to_same = ap (λ ports. format_at ports 0) outs

  from_same : (width : ℕ) → spec.out_width ≡ Some width → format_at (operator_outputs spec.op) 0 ≡ from
  from_same width is = sym (plain_is spec.op from (choice spec valid width is).1 plain)

  pub cut_formats : AreOutputFormats net from to
  cut_formats = go spec.out_width refl
    where
      go : (width : Option ℕ) → spec.out_width ≡ width → AreOutputFormats net from to
      go None is = absurd (some is)
      go (Some width) is =
          subst (λ f. AreOutputFormats net f to) (from_same width is)
          (subst (λ f. AreOutputFormats net (format_at (operator_outputs spec.op) 0) f) to_same
          (formats spec net valid (each (mode_of spec) valid.mode) width is))

  pub cut_fits_by : FitsSpec spec (converted_net spec.overflow from to net)
  cut_fits_by = go spec.out_width refl
    where
      go : (width : Option ℕ) → spec.out_width ≡ width → FitsSpec spec (converted_net spec.overflow from to net)
      go None is = absurd (some is)
      go (Some width) is =
          subst (λ f. FitsSpec spec (converted_net spec.overflow f to net)) (from_same width is)
          (subst (λ f. FitsSpec spec (converted_net spec.overflow (format_at (operator_outputs spec.op) 0) f net)) to_same
          (converted_fits spec net valid (each (mode_of spec) valid.mode) width is))

-- in either case
pub cut_fits : (spec : Spec) (net : Net) → IsValidSpec spec → FitsInEachMode spec.op net → FitsSpec spec (cut_net spec net)
cut_fits spec net valid each = go spec.out_width refl
  where
    fits : FitsOperator (mode_of spec) spec.op net
    fits = each (mode_of spec) valid.mode

    go : (width : Option ℕ) → spec.out_width ≡ width → FitsSpec spec (cut_by width spec net)
    go None is = plain_fits spec net is fits
    go (Some width) is = converted_fits spec net valid fits width is
