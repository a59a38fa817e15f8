-- The node of a constant: it is the input times the constant.
use Rattle.std.proofs.Common.{◌≡◌, ℕ, zero, suc, ◌*◌, ◌^◌, ◌<◌, Bool, [], ◌∷◌, length, refl, sym, ap, ◌∙◌, subst, arith}
use Rattle.std.specs.Prelude.{ℤ, pos, negsuc, neg_ℤ, ◌-ℤ◌, ◌*ℤ◌, unsigned_abs, All, Contains, slice_index}
use Rattle.std.proofs.lemmas.Int.{ints}
use Rattle.std.proofs.lemmas.List.Elements.{All-weaker}
use Rattle.std.proofs.lemmas.Nat.{pow_pos}
use Rattle.opgen_num.specs.declared.format.Format.{Format}
use Rattle.opgen_num.specs.Formats.{Holds, range_width}
use Rattle.opgen_num.specs.Words.{val, word}
use Rattle.opgen_num.specs.WordLaws.{length-word, nat-word}
use Rattle.opgen_num.proofs.Values.{val_holds}
use Rattle.opgen_design.specs.declared.expr.Op.TheVariants.{Minus}
use Rattle.opgen_design.specs.Run.{AreWords}
use Rattle.opgen_design.specs.Value.{IsWidth}
use Rattle.opgen_net.specs.declared.cell.Class.TheVariants.{Add}
use Rattle.opgen_net.specs.declared.net.Net.{Net}
use Rattle.opgen_net.specs.declared.node.Node.TheVariants.{Constant, Cells}
use Rattle.opgen_net.specs.Flow.{Inputs, flow}
use Rattle.opgen_net.specs.Valid.{IsValid, input_widths, widths, FitsNodes}
use Rattle.opgen_net.proofs.Appending.{flow-append_before, flow-append_last, width-append_before, width-append_last}
use Rattle.opgen_net.proofs.FlowWidths.{flow-width}
use Rattle.opgen_kinds.specs.Several.{constant_format}
use Rattle.opgen_ports.specs.OddParts.{power_of, odd_part}
use Rattle.opgen_ports.specs.Ranges.{IsWithin}
use Rattle.opgen_ports.specs.Reaches.{reach_over}
use Rattle.opgen_kinds.proofs.of_kind.Several.{multiples_held}
use Rattle.opgen_net.specs.Placed.{Placed, difference_of, with_last}
use Rattle.opgen_net.proofs.Later.{Later, later-node, later-then, node_there}
use Rattle.opgen_graph.specs.declared.multiples.Multiple.{Multiple}
use Rattle.opgen_graph.specs.Placing.{factors, IsNode, HasOddPart, HasInput, IsMultiple}
use Rattle.opgen_graph.specs.Recipe.{multiple_of, Multiples, negated, with_magnitude, with_constant}
use Rattle.opgen_graph.proofs.Residues.{Has, has, difference-has, settled}
use Rattle.opgen_graph.proofs.Standing.{multiple_of-all, multiple_of-factor}
use Rattle.opgen_graph.proofs.Sums.{pair-fits, IsPlacedNode, operand-placed, operand-has}
use Rattle.opgen_graph.proofs.TargetLists.{parts_product}

-- a valid net with its input and multiples
pub record Ready (input : Format) (b : Multiples) : Type 0 where
  pub valid : IsValid b.net
  pub has_input : HasInput input b.net
  pub each : All (IsMultiple input b.net) b.known

pub ready_nodes : (input : Format) (b : Multiples) → Ready input b → All (IsNode b.net) b.known
ready_nodes input b ready =
    All-weaker (IsMultiple input b.net) (IsNode b.net) (λ (m : Multiple) (h : IsMultiple input b.net m). h.node) b.known ready.each

-- the output of the constant 0 has one bit
zero_width : (input : Format) → (constant_format input (pos 0)).width ≡ 1
zero_width input =
    let reach = reach_over input (pos 0 ∷ []) in
    let below : reach.below ≡ 0 = omega arith in
    let above : reach.above ≡ 0 = omega arith in
    ap (λ n. range_width (neg_ℤ (pos n)) (pos reach.above)) below ∙ ap (λ n. range_width (pos 0) (pos n)) above

pub zeros-has : (bits : ℕ) → Has bits (pos 0) (word bits 0)
zeros-has bits = record {
  width = length-word bits 0;
  residue = record { more = 0; less = 0; same = omega (arith, ints, nat-word bits 0 (pow_pos bits)) };
}

-- a node taken off zeros

module _ (bits : ℕ) (p : Placed) (valid : IsValid p.net) (wide : IsWidth bits)
    (width : slice_index (widths p.net.nodes) p.place ≡ bits) where
  abbrev zeros : Net
  zeros = with_last p.net (Constant (word bits 0))

  place_there : p.place < length p.net.nodes
  place_there = node_there p.net p.place bits wide.0 width

  pub zeros-wide : IsWidth (length (word bits 0))
  zeros-wide = subst IsWidth (sym (length-word bits 0)) wide

  zeros-later : Later p.net zeros
  zeros-later = later-node p.net (Constant (word bits 0)) valid zeros-wide refl

  pub negated-fits : FitsNodes (widths zeros.nodes) bits (difference_of (length p.net.nodes) p.place)
  negated-fits =
      pair-fits (widths zeros.nodes) Minus (length p.net.nodes) p.place bits refl wide
      (width-append_last p.net.nodes (Constant (word bits 0)) ∙ length-word bits 0)
      (width-append_before p.net.nodes (Constant (word bits 0)) p.place place_there ∙ width)

  pub negated-placed : IsPlacedNode p.net bits (negated bits p)
  negated-placed =
      let node = Cells Add bits (difference_of (length p.net.nodes) p.place) in
      record {
        later = later-then p.net zeros (negated bits p).net zeros-later (later-node zeros node zeros-later.valid (refl, negated-fits) refl);
        width = width-append_last zeros.nodes node;
      }

  pub negated-has : (z : ℤ) (inputs : Inputs) (t : ℤ) → Has bits z (flow p.net.nodes inputs p.place t)
      → Has bits (pos 0 -ℤ z) (flow (negated bits p).net.nodes inputs (negated bits p).place t)
  negated-has z inputs t h =
      let node = Cells Add bits (difference_of (length p.net.nodes) p.place) in
      let none : Has bits (pos 0) (flow zeros.nodes inputs (length p.net.nodes) t) =
      subst (Has bits (pos 0)) (sym (flow-append_last p.net.nodes (Constant (word bits 0)) inputs t)) (zeros-has bits) in
      let same : Has bits z (flow zeros.nodes inputs p.place t) =
      subst (Has bits z) (sym (flow-append_before p.net.nodes (Constant (word bits 0)) inputs p.place t place_there)) h in
      subst (Has bits (pos 0 -ℤ z)) (sym (flow-append_last zeros.nodes node inputs t))
      (difference-has bits (pos 0) z (flow zeros.nodes inputs (length p.net.nodes) t) (flow zeros.nodes inputs p.place t) none same)

small_number : (t : ℤ) → IsWithin 1048575 t → unsigned_abs t < 2 ^ 32
small_number t h = omega (arith, h)

-- the node of a constant has the width

module _ (signed : Bool) (b : Multiples) (valid : IsValid b.net) (nodes : All (IsNode b.net) b.known) (bits : ℕ) (wide : IsWidth bits) where
  pub magnitude-placed : (n : ℕ) → Contains (factors b.known) (odd_part n) → IsPlacedNode b.net bits (with_magnitude signed bits b n)
  magnitude-placed n odd =
      let of = multiple_of b.known (odd_part n) in
      operand-placed signed (power_of n) bits b.net of valid wide (multiple_of-all (IsNode b.net) b.known (odd_part n) nodes odd)

  pub constant-placed : (input : Format) (t : ℤ) → HasOddPart b.known t → bits ≡ (constant_format input t).width
      → IsPlacedNode b.net bits (with_constant signed bits b t)
  constant-placed input (pos zero) odd e = record {
    later = later-node b.net (Constant (word 1 0)) valid (omega arith, omega arith) refl;
    width = width-append_last b.net.nodes (Constant (word 1 0)) ∙ sym (e ∙ zero_width input);
  }
  constant-placed input (pos (suc n)) odd e = magnitude-placed (suc n) (odd (λ z. cc))
  constant-placed input (negsuc n) odd e =
      let magnitude = with_magnitude signed bits b (suc n) in
      let one = magnitude-placed (suc n) (odd (λ z. cc)) in
      let two = negated-placed bits magnitude one.later.valid wide one.width in
      record { later = later-then b.net magnitude.net (negated bits magnitude).net one.later two.later; width = two.width }

-- and has the input times the constant

module _ (input : Format) (b : Multiples) (ready : Ready input b) (bits : ℕ) (wide : IsWidth bits) where
  pub magnitude-has : (n : ℕ) → 0 < n → n < 2 ^ 32 → Contains (factors b.known) (odd_part n)
      → (inputs : Inputs) (t : ℤ) → All (AreWords (input_widths b.net)) inputs
      → Has bits (val (flow b.net.nodes inputs 0 t) input *ℤ pos n)
      (flow (with_magnitude input.signed bits b n).net.nodes inputs (with_magnitude input.signed bits b n).place t)
  magnitude-has n some small odd inputs t words =
      let x = val (flow b.net.nodes inputs 0 t) input in
      let of = multiple_of b.known (odd_part n) in
      let is = multiple_of-all (IsMultiple input b.net) b.known (odd_part n) ready.each odd in
      has bits _ _ _
      (ap (λ f. x *ℤ pos (2 ^ power_of n * f)) (multiple_of-factor b.known (odd_part n))
      ∙ ap (λ k. x *ℤ pos k) (parts_product n some small))
      (operand-has input (power_of n) bits b.net of ready.valid wide is inputs t words)

  opposite : (x : ℤ) (n : ℕ) → pos 0 -ℤ (x *ℤ pos (suc n)) ≡ x *ℤ negsuc n
  opposite x n = omega (arith, ints)

  constant-has : (t : ℤ) → IsWithin 1048575 t → HasOddPart b.known t → bits ≡ (constant_format input t).width
      → (inputs : Inputs) (time : ℤ) → All (AreWords (input_widths b.net)) inputs
      → Has bits (val (flow b.net.nodes inputs 0 time) input *ℤ t)
      (flow (with_constant input.signed bits b t).net.nodes inputs (with_constant input.signed bits b t).place time)
  constant-has (pos zero) small odd e inputs time words =
      let x = val (flow b.net.nodes inputs 0 time) input in
      subst (Has bits (x *ℤ pos 0)) (sym (flow-append_last b.net.nodes (Constant (word 1 0)) inputs time))
      (subst (λ (n : ℕ). Has n (x *ℤ pos 0) (word 1 0)) (sym (e ∙ zero_width input))
      (has 1 (pos 0) (x *ℤ pos 0) (word 1 0) (omega (arith, ints)) (zeros-has 1)))
  constant-has (pos (suc n)) small odd e inputs time words =
      magnitude-has (suc n) (omega arith) (small_number (pos (suc n)) small) (odd (λ z. cc)) inputs time words
  constant-has (negsuc n) small odd e inputs time words =
      let magnitude = with_magnitude input.signed bits b (suc n) in
      let nodes = ready_nodes input b ready in
      let one = magnitude-placed input.signed b ready.valid nodes bits wide (suc n) (odd (λ z. cc)) in
      let x = val (flow b.net.nodes inputs 0 time) input in
      has bits _ _ _ (opposite x n)
      (negated-has bits magnitude one.later.valid wide one.width (x *ℤ pos (suc n)) inputs time
      (magnitude-has (suc n) (omega arith) (small_number (negsuc n) small) (odd (λ z. cc)) inputs time words))

  -- in the format of its output it is the input times the constant
  pub constant-value : (t : ℤ) → IsWithin 1048575 t → HasOddPart b.known t → bits ≡ (constant_format input t).width
      → (inputs : Inputs) (time : ℤ) → All (AreWords (input_widths b.net)) inputs
      → val (flow (with_constant input.signed bits b t).net.nodes inputs (with_constant input.signed bits b t).place time)
      (constant_format input t)
      ≡ val (flow b.net.nodes inputs 0 time) input *ℤ t
  constant-value t small odd e inputs time words =
      let w = flow b.net.nodes inputs 0 time in
      let x = val w input in
      let long : length w ≡ input.width = flow-width b.net ready.valid inputs words 0 time ∙ ready.has_input.width in
      let range : Holds input.signed input.width x =
      subst (λ n. Holds input.signed n x) long (val_holds w input (omega (arith, long, ready.has_input.some))) in
      settled (constant_format input t) bits _ (x *ℤ t) wide.0 (constant-has t small odd e inputs time words)
      (subst (λ n. Holds (constant_format input t).signed n (x *ℤ t)) (sym e) (multiples_held input t x range))
