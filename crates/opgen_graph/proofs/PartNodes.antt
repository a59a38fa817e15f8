-- The nodes of odd parts: each is the input times its part.
use Rattle.std.proofs.Common.{◌≡◌, ℕ, ◌+◌, ◌-◌, ◌*◌, ◌^◌, ◌<◌, ◌≤◌, Bool, true, false, List, [], ◌∷◌, ◌++◌, length, append_assoc, sym, ap, ◌∙◌, subst, arith}
use Rattle.std.specs.Prelude.{ℤ, pos, ◌*ℤ◌, All}
use Rattle.std.proofs.Math.Nat.{mul-le-mul}
use Rattle.std.proofs.lemmas.Bool.Decides.{nat_tests}
use Rattle.std.proofs.lemmas.Nat.{pow_pos}
use Rattle.std.proofs.lemmas.List.{append-nil, map-append}
use Rattle.std.proofs.lemmas.List.Elements.{All-head, All-tail, All-push, All-weaker}
use Rattle.opgen_num.specs.declared.format.Format.{Format}
use Rattle.opgen_num.specs.Formats.{Holds}
use Rattle.opgen_num.specs.Words.{val}
use Rattle.opgen_num.proofs.Values.{val_holds}
use Rattle.opgen_design.specs.Run.{AreWords}
use Rattle.opgen_design.specs.Value.{IsWidth}
use Rattle.opgen_net.specs.declared.net.Net.{Net}
use Rattle.opgen_net.specs.Flow.{Inputs, flow}
use Rattle.opgen_net.specs.Placed.{Placed}
use Rattle.opgen_net.specs.Valid.{input_widths}
use Rattle.opgen_net.proofs.FlowWidths.{flow-width}
use Rattle.opgen_net.proofs.Grown.{grown-flow}
use Rattle.opgen_net.proofs.Later.{Later, later-same, later-then}
use Rattle.opgen_kinds.specs.Several.{constant_format}
use Rattle.opgen_ports.specs.Ranges.{IsInput}
use Rattle.opgen_ports.specs.Reaches.{reach_over}
use Rattle.opgen_kinds.proofs.of_kind.Several.{multiple_width, multiples_held}
use Rattle.opgen_ports.proofs.Widths.{some_width}
use Rattle.opgen_graph.specs.declared.multiples.Multiple.{Multiple}
use Rattle.opgen_graph.specs.Parts.{part_width, part_node, with_part, with_parts}
use Rattle.opgen_graph.specs.Placing.{factors, IsPart, IsMultiple}
use Rattle.opgen_graph.specs.Recipe.{Multiples}
use Rattle.opgen_graph.proofs.Kept.{keeps-later, words-back, input_there, input-kept, multiple-kept}
use Rattle.opgen_graph.proofs.Products.{Ready, ready_nodes, magnitude-placed, magnitude-has}
use Rattle.opgen_graph.proofs.Residues.{settled}
use Rattle.opgen_graph.proofs.Sums.{IsPlacedNode}

-- ---- the output of a constant above 0 is signed where the input is

part-signed : (input : Format) (part : ℕ) → 0 < part → 1 ≤ input.width → (constant_format input (pos part)).signed ≡ input.signed
part-signed input part some wide = go input.signed input.width wide
  where
    go : (signed : Bool) (width : ℕ) → 1 ≤ width
        → (constant_format (record { signed = signed; width = width; lsb = input.lsb }) (pos part)).signed ≡ signed
    go true width wide =
        let far : 1 * 1 ≤ part * 2 ^ (width - 1) = mul-le-mul some (pow_pos (width - 1)) in
        let below : 0 < (part + 0) * 2 ^ (width - 1) + 0 * (2 ^ (width - 1) - 1) = omega (arith, far) in
        grind (arith, nat_tests, below)
    go false width wide =
        let none : (part + 0) * 0 + 0 * (2 ^ width - 1) ≡ 0 = omega arith in
        grind (arith, nat_tests, none)

-- ---- the node of one part

module _ (input : Format) (known : List Multiple) (net : Net) (ready : Ready input (record { net = net; known = known }))
    (part : ℕ) (is : IsPart known part) (wide : IsWidth (part_width input part)) where
  abbrev b : Multiples
  b = record { net = net; known = known }

  abbrev bits : ℕ
  bits = part_width input part

  abbrev made : Placed
  made = part_node input known net part

  abbrev multiple : Multiple
  multiple = record { factor = part; node = made.place; width = bits }

  pub part-placed : IsPlacedNode net bits made
  part-placed = magnitude-placed input.signed b ready.valid (ready_nodes input b ready) bits wide part is.made

  part-value : (inputs : Inputs) (t : ℤ) → All (AreWords (input_widths net)) inputs
      → val (flow made.net.nodes inputs made.place t) input ≡ val (flow net.nodes inputs 0 t) input *ℤ pos part
  part-value inputs t words =
      let w = flow net.nodes inputs 0 t in
      let x = val w input in
      let long : length w ≡ input.width = flow-width net ready.valid inputs words 0 t ∙ ready.has_input.width in
      let range : Holds input.signed input.width x =
      subst (λ n. Holds input.signed n x) long (val_holds w input (omega (arith, long, ready.has_input.some))) in
      settled input bits _ (x *ℤ pos part) wide.0
      (magnitude-has input b ready bits wide part is.some (omega (arith, is.small)) is.made inputs t words)
      (subst (λ s. Holds s bits (x *ℤ pos part)) (part-signed input part is.some ready.has_input.some)
      (multiples_held input (pos part) x range))

  pub part-multiple : IsMultiple input made.net multiple
  part-multiple =
      let keeps = keeps-later net made.net part-placed.later in
      record {
        node = record { some = wide.0; most = wide.1; width = part-placed.width };
        product = λ inputs t words.
            part-value inputs t (words-back net made.net keeps inputs words)
            ∙ ap (λ w. val w input *ℤ pos part)
            (sym (grown-flow net made.net part-placed.later.grown inputs 0 t (input_there input net ready.has_input)));
      }

  pub part-ready : Ready input (record { net = made.net; known = known })
  part-ready =
      let keeps = keeps-later net made.net part-placed.later in
      record {
        valid = keeps.valid;
        has_input = input-kept input net made.net keeps ready.has_input;
        each = All-weaker (IsMultiple input net) (IsMultiple input made.net) (multiple-kept input net made.net keeps ready.has_input)
            known ready.each;
      }

-- ---- all of them

-- no input has more than the program's bits
pub part-wide : (input : Format) (known : List Multiple) (part : ℕ) → IsInput input → IsPart known part → IsWidth (part_width input part)
part-wide input known part fits is =
    (some_width (reach_over input (pos part ∷ [])), omega (arith, multiple_width input (pos part) is.small, fits.most))

pub record AreMade (input : Format) (known : List Multiple) (before : Multiples) (parts : List ℕ) (after : Multiples) : Type 0 where
  pub later : Later before.net after.net
  pub ready : Ready input (record { net = after.net; known = known })
  pub each : All (IsMultiple input after.net) after.known
  pub factors_are : factors after.known ≡ factors before.known ++ parts

pub all-made : (input : Format) → IsInput input → (known : List Multiple) (before : Multiples) (parts : List ℕ)
    → Ready input (record { net = before.net; known = known }) → All (IsMultiple input before.net) before.known
    → All (IsPart known) parts → AreMade input known before parts (with_parts input known before parts)
all-made input fits known before [] ready each stand = record {
  later = later-same before.net ready.valid;
  ready = ready;
  each = each;
  factors_are = sym (append-nil (factors before.known));
}
all-made input fits known before (p ∷ more) ready each stand =
    let one = All-head (IsPart known) p more stand in
    let wide = part-wide input known p fits one in
    let next = with_part input known before p in
    let m : Multiple = record { factor = p; node = (part_node input known before.net p).place; width = part_width input p } in
    let answers = part-placed input known before.net ready p one wide in
    let keeps = keeps-later before.net next.net answers.later in
    let kept = All-weaker (IsMultiple input before.net) (IsMultiple input next.net)
    (multiple-kept input before.net next.net keeps ready.has_input) before.known each in
    let now = All-push (IsMultiple input next.net) before.known m kept (part-multiple input known before.net ready p one wide) in
    let rest = all-made input fits known next more (part-ready input known before.net ready p one wide) now
    (All-tail (IsPart known) p more stand) in
    record {
      later = later-then before.net next.net (with_parts input known next more).net answers.later rest.later;
      ready = rest.ready;
      each = rest.each;
      factors_are = rest.factors_are
          ∙ ap (λ fs. fs ++ more) (map-append (λ (m : Multiple). m.factor) before.known (m ∷ []))
          ∙ append_assoc (factors before.known) (p ∷ []) more;
    }
