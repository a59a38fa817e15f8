-- What the nodes of the sums have: the inputs times the taps, and half a unit, up to a multiple of a power of two.
use Rattle.std.proofs.Common.{◌≡◌, ◌≢◌, ℕ, zero, suc, ◌+◌, ◌^◌, ◌<◌, Bool, true, false, List, [], ◌∷◌, length, refl, sym, ap, ◌∙◌, subst, arith}
use Rattle.std.specs.Prelude.{ℤ, pos, negsuc, ◌+ℤ◌, ◌-ℤ◌, ◌*ℤ◌, unsigned_abs, All, nat_eq, if◌then◌else◌}
use Rattle.std.proofs.lemmas.Bool.{eqb-true}
use Rattle.std.proofs.lemmas.Int.{ints}
use Rattle.std.proofs.lemmas.List.Elements.{All-head, All-weaker}
use Rattle.opgen_num.specs.declared.format.Format.{Format}
use Rattle.opgen_num.specs.Formats.{Holds}
use Rattle.opgen_num.specs.Words.{val, nat, word}
use Rattle.opgen_num.specs.WordLaws.{length-word, nat-word}
use Rattle.opgen_num.proofs.Values.{val_holds}
use Rattle.opgen_design.specs.Run.{AreWords}
use Rattle.opgen_design.specs.Value.{IsWidth}
use Rattle.opgen_net.specs.declared.cell.Class.TheVariants.{Add}
use Rattle.opgen_net.specs.declared.net.Net.{Net}
use Rattle.opgen_net.specs.declared.node.Node.TheVariants.{Cells, Constant, Delay}
use Rattle.opgen_net.specs.Flow.{Inputs, before, input_at, flow}
use Rattle.opgen_net.specs.Placed.{Placed, with_bits}
use Rattle.opgen_net.specs.Valid.{IsValid, input_widths}
use Rattle.opgen_net.proofs.Appending.{flow-append_last}
use Rattle.opgen_net.proofs.FlowWidths.{flow-width}
use Rattle.opgen_net.proofs.Grown.{grown-flow}
use Rattle.opgen_net.proofs.Later.{Later, later-same, node_there, words-later}
use Rattle.opgen_net.proofs.WordLaws.{word-has_bits}
use Rattle.opgen_ports.specs.Ranges.{IsInput, IsWithin}
use Rattle.opgen_ports.specs.Ports.{Recent, weighted, weighted_from}
use Rattle.opgen_ports.specs.Spans.{IsOf}
use Rattle.opgen_ports.proofs.InputPorts.{input_bit}
use Rattle.opgen_graph.specs.Placing.{HasOddPart, IsMultiple, IsNode}
use Rattle.opgen_graph.specs.Recipe.{Multiples, operand, with_input, with_magnitude, with_constant}
use Rattle.opgen_graph.specs.Residues.{IsResidue}
use Rattle.opgen_graph.proofs.Kept.{Keeps, keeps-later, keeps-then, input-kept, multiple-kept, words-back, words-kept}
use Rattle.opgen_graph.proofs.Operands.{operand-residue}
use Rattle.opgen_graph.proofs.Products.{Ready, ready_nodes, magnitude-placed, magnitude-has, negated-has}
use Rattle.opgen_graph.proofs.Residues.{Has, has, settled, sum-has, difference-has}
use Rattle.opgen_graph.proofs.ServedNets as served
use Rattle.opgen_graph.proofs.Sums.{IsPlacedNode, given-there, operand-placed}
use Rattle.opgen_tfir.specs.declared.products.Products.{Products}
use Rattle.opgen_tfir.specs.Recipe.{all_zero, own_format, sum_width, widened, result, joined, with_product, with_half, first_product, delayed, with_tap, with_taps}
use Rattle.opgen_tfir.specs.Steps.{HasWidths, AreTaps}
use Rattle.opgen_tfir.specs.Sums.{recent}
use Rattle.opgen_tfir.proofs.Chains.{as_multiple, is-node, half-placed, taps-tail, width-at, late-placed, wider-placed, late-keeps, wider-keeps, taps-placed}
use Rattle.opgen_tfir.proofs.Widths.{half-fits, of_width, sum-holds}
use Rattle.opgen_tfir.proofs.Zeros.{first-some, zeros-weighted, weighted-later}

before-is : (t : ℤ) (k : ℕ) → before t -ℤ pos k ≡ t -ℤ pos (k + 1)
before-is (pos zero) k = omega (arith, ints)
before-is (pos (suc t)) k = omega (arith, ints)
before-is (negsuc t) k = omega (arith, ints)

same-time : (t : ℤ) → t -ℤ pos 0 ≡ t
same-time t = omega (arith, ints)

-- the numbers of the input
pub input-held : (input : Format) → IsInput input → (net : Net) → Later (with_input input) net → (inputs : Inputs)
    → All (AreWords (input_widths net)) inputs → (u : ℤ) → IsOf input (val (input_at inputs 0 input.width u) input)
input-held input is net from inputs words u =
    let v = input_at inputs 0 input.width u in
    let old = with_input input in
    let valid = served.input-valid input is in
    let now = words-back old net (keeps-later old net from) inputs words in
    let long : length v ≡ input.width = flow-width old valid inputs now 0 u in
    subst (λ n. Holds input.signed n (val v input)) long (val_holds v input (omega (arith, long, input_bit input is)))

-- ---- a node in another width

module _ (format : Format) (to : ℕ) (d : Placed) (valid : IsValid d.net) (wide_from : IsWidth format.width) (wide_to : IsWidth to)
    (inputs : Inputs) (t : ℤ) (words : All (AreWords (input_widths d.net)) inputs) (z : ℤ)
    (h : Has format.width z (flow d.net.nodes inputs d.place t)) where
  as_operand : (node : IsPlacedNode d.net to (with_bits d.net (operand format.signed 0 to (as_multiple format.width d))))
      → Holds format.signed format.width z
      → Has to z (flow (with_bits d.net (operand format.signed 0 to (as_multiple format.width d))).net.nodes inputs
      (with_bits d.net (operand format.signed 0 to (as_multiple format.width d))).place t)
  as_operand answers holds =
      let m = as_multiple format.width d in
      let bs = operand format.signed 0 to m in
      let made = with_bits d.net bs in
      let width = flow-width d.net valid inputs words d.place t in
      let node = is-node format.signed format.width to d valid wide_from wide_to (sym width ∙ h.width) in
      let there = given-there format.signed 0 to d.net m valid wide_to node in
      let number = ap nat (word-has_bits d.net valid bs there inputs t words) in
      let residue = operand-residue d.net.nodes inputs t format m wide_from.0 h.width 0 to in
      let value : val (flow d.net.nodes inputs d.place t) format ≡ z =
      settled format format.width (flow d.net.nodes inputs d.place t) z wide_from.0 h holds in
      let one : pos (2 ^ 0) *ℤ val (flow d.net.nodes inputs d.place t) format ≡ z = omega (arith, ints, value) in
      has to _ z (flow made.net.nodes inputs made.place t) one
      (record {
        width = flow-width made.net answers.later.valid inputs (words-later d.net made.net answers.later inputs words) made.place t
            ∙ answers.width;
        residue = subst (IsResidue to (pos (2 ^ 0) *ℤ val (flow d.net.nodes inputs d.place t) format)) (sym number) residue;
      })

  pub widened-has : (nat_eq format.width to ≡ false → Holds format.signed format.width z)
      → Has to z (flow (widened format.signed format.width to d).net.nodes inputs (widened format.signed format.width to d).place t)
  widened-has holds = go (nat_eq format.width to) (λ e. eqb-true format.width to e) holds
    where
      go : (b : Bool) → (b ≡ true → format.width ≡ to) → (b ≡ false → Holds format.signed format.width z)
          → Has to z (flow (if b then d else with_bits d.net (operand format.signed 0 to (as_multiple format.width d))).net.nodes inputs
          (if b then d else with_bits d.net (operand format.signed 0 to (as_multiple format.width d))).place t)
      go true same holds = subst (λ n. Has n z (flow d.net.nodes inputs d.place t)) (same refl) h
      go false same holds =
          let width = flow-width d.net valid inputs words d.place t in
          as_operand
          (operand-placed format.signed 0 to d.net (as_multiple format.width d) valid wide_to
          (is-node format.signed format.width to d valid wide_from wide_to (sym width ∙ h.width)))
          (holds refl)

-- ---- products

module _ (p : Products) (bits : ℕ) (wide : IsWidth bits) where
  -- added to a node
  module _ (d : Placed) (ready : Ready p.input (record { net = d.net; known = p.parts })) (inputs : Inputs) (t : ℤ)
      (words : All (AreWords (input_widths d.net)) inputs) where
    abbrev b : Multiples
    b = record { net = d.net; known = p.parts }

    abbrev x : ℤ
    x = val (flow d.net.nodes inputs 0 t) p.input

    kept-has : (m : Placed) → IsPlacedNode d.net bits m → (z : ℤ) → d.place < length d.net.nodes → Has bits z (flow d.net.nodes inputs d.place t)
        → Has bits z (flow m.net.nodes inputs d.place t)
    kept-has m made z there h = subst (Has bits z) (sym (grown-flow d.net m.net made.later.grown inputs d.place t there)) h

    joined-has : (negative : Bool) (m : Placed) (y z : ℤ) → Has bits z (flow m.net.nodes inputs d.place t)
        → Has bits y (flow m.net.nodes inputs m.place t)
        → Has bits (if negative then z -ℤ y else z +ℤ y)
        (flow (joined negative bits d.place m).net.nodes inputs (joined negative bits d.place m).place t)
    joined-has false m y z h g =
        subst (Has bits (z +ℤ y)) (sym (flow-append_last m.net.nodes (Cells Add bits (result false d.place m.place)) inputs t))
        (sum-has bits z y (flow m.net.nodes inputs d.place t) (flow m.net.nodes inputs m.place t) h g)
    joined-has true m y z h g =
        subst (Has bits (z -ℤ y)) (sym (flow-append_last m.net.nodes (Cells Add bits (result true d.place m.place)) inputs t))
        (difference-has bits z y (flow m.net.nodes inputs d.place t) (flow m.net.nodes inputs m.place t) h g)

    added : (z : ℤ) (n : ℕ) → z -ℤ (x *ℤ pos (suc n)) ≡ z +ℤ (x *ℤ negsuc n)
    added z n = omega (arith, ints)

    nothing : (z : ℤ) → z ≡ z +ℤ (x *ℤ pos 0)
    nothing z = omega (arith, ints)

    small_number : (c : ℤ) → IsWithin 1048575 c → unsigned_abs c < 2 ^ 32
    small_number c h = omega (arith, h)

    pub product-has : (c z : ℤ) → IsWithin 1048575 c → HasOddPart p.parts c → d.place < length d.net.nodes
        → Has bits z (flow d.net.nodes inputs d.place t)
        → Has bits (z +ℤ (x *ℤ c)) (flow (with_product p bits c d).net.nodes inputs (with_product p bits c d).place t)
    product-has (pos zero) z small odd there h = has bits z _ _ (nothing z) h
    product-has (pos (suc n)) z small odd there h =
        let m = with_magnitude p.input.signed bits b (suc n) in
        let part = odd (λ e. cc) in
        let made = magnitude-placed p.input.signed b ready.valid (ready_nodes p.input b ready) bits wide (suc n) part in
        joined-has false m (x *ℤ pos (suc n)) z (kept-has m made z there h)
        (magnitude-has p.input b ready bits wide (suc n) (omega arith) (small_number (pos (suc n)) small) part inputs t words)
    product-has (negsuc n) z small odd there h =
        let m = with_magnitude p.input.signed bits b (suc n) in
        let part = odd (λ e. cc) in
        let made = magnitude-placed p.input.signed b ready.valid (ready_nodes p.input b ready) bits wide (suc n) part in
        has bits _ _ _ (added z n)
        (joined-has true m (x *ℤ pos (suc n)) z (kept-has m made z there h)
        (magnitude-has p.input b ready bits wide (suc n) (omega arith) (small_number (negsuc n) small) part inputs t words))

    -- the product of the last tap alone
    opposite : (n : ℕ) → pos 0 -ℤ (x *ℤ pos (suc n)) ≡ x *ℤ negsuc n
    opposite n = omega (arith, ints)

    pub end-has : (c : ℤ) → c ≢ pos 0 → IsWithin 1048575 c → HasOddPart p.parts c
        → Has bits (x *ℤ c) (flow (with_constant p.input.signed bits b c).net.nodes inputs (with_constant p.input.signed bits b c).place t)
    end-has (pos zero) some small odd = absurd (some refl)
    end-has (pos (suc n)) some small odd =
        magnitude-has p.input b ready bits wide (suc n) (omega arith) (small_number (pos (suc n)) small) (odd (λ e. cc)) inputs t words
    end-has (negsuc n) some small odd =
        let m = with_magnitude p.input.signed bits b (suc n) in
        let part = odd (λ e. cc) in
        let made = magnitude-placed p.input.signed b ready.valid (ready_nodes p.input b ready) bits wide (suc n) part in
        has bits _ _ _ (opposite n)
        (negated-has bits m made.later.valid wide made.width (x *ℤ pos (suc n)) inputs t
        (magnitude-has p.input b ready bits wide (suc n) (omega arith) (small_number (negsuc n) small) part inputs t words))

pub ready-kept : (p : Products) (old new : Net) → Keeps old new → Ready p.input (record { net = old; known = p.parts })
    → Ready p.input (record { net = new; known = p.parts })
ready-kept p old new keeps ready =
    record {
      valid = keeps.valid;
      has_input = input-kept p.input old new keeps ready.has_input;
      each = All-weaker (IsMultiple p.input old) (IsMultiple p.input new) (multiple-kept p.input old new keeps ready.has_input) p.parts ready.each;
    }

-- ---- half a unit, and the product of the last tap

module _ (p : Products) (bits : ℕ) (wide : IsWidth bits) (fits : p.half < 2 ^ bits) (net : Net)
    (ready : Ready p.input (record { net = net; known = p.parts })) (inputs : Inputs) (t : ℤ)
    (words : All (AreWords (input_widths net)) inputs) where
  half-has : Has bits (pos p.half) (flow (with_half p bits net).net.nodes inputs (with_half p bits net).place t)
  half-has =
      subst (Has bits (pos p.half)) (sym (flow-append_last net.nodes (Constant (word bits p.half)) inputs t))
      (record {
        width = length-word bits p.half;
        residue = record { more = 0; less = 0; same = omega (arith, ints, nat-word bits p.half fits) };
      })

  -- the input is the same in the net with the half unit
  pub first-has : (c : ℤ) → c ≢ pos 0 → IsWithin 1048575 c → HasOddPart p.parts c
      → Has bits ((val (flow net.nodes inputs 0 t) p.input *ℤ c) +ℤ pos p.half)
      (flow (first_product p bits net c).net.nodes inputs (first_product p bits net c).place t)
  first-has c some small odd = go (nat_eq p.half 0) (λ e. eqb-true p.half 0 e)
    where
      x : ℤ
      x = val (flow net.nodes inputs 0 t) p.input

      none : (h : ℕ) → h ≡ 0 → x *ℤ c ≡ (x *ℤ c) +ℤ pos h
      none h e = omega (arith, ints, e)

      turned : (y z : ℤ) → y +ℤ z ≡ z +ℤ y
      turned y z = omega (arith, ints)

      nodes : All (IsNode net) p.parts
      nodes = ready_nodes p.input (record { net = net; known = p.parts }) ready

      go : (e : Bool) → (e ≡ true → p.half ≡ 0)
          → Has bits ((x *ℤ c) +ℤ pos p.half)
          (flow (if e then with_constant p.input.signed bits (record { net = net; known = p.parts }) c
          else with_product p bits c (with_half p bits net)).net.nodes inputs
          (if e then with_constant p.input.signed bits (record { net = net; known = p.parts }) c
          else with_product p bits c (with_half p bits net)).place t)
      go true same =
          has bits (x *ℤ c) _ _ (none p.half (same refl))
          (end-has p bits wide (record { net = net; place = 0 }) ready inputs t words c some small odd)
      go false other =
          let h = with_half p bits net in
          let placed = half-placed p bits wide net ready.valid nodes in
          let later = ready-kept p net h.net (keeps-later net h.net placed.later) ready in
          let same : val (flow h.net.nodes inputs 0 t) p.input ≡ x =
          ap (λ w. val w p.input) (grown-flow net h.net placed.later.grown inputs 0 t
          (node_there net 0 p.input.width ready.has_input.some ready.has_input.width)) in
          has bits _ _ _ (ap (λ y. pos p.half +ℤ (y *ℤ c)) same ∙ turned (pos p.half) (x *ℤ c))
          (product-has p bits wide h later inputs t (words-later net h.net placed.later inputs words) c (pos p.half) small odd
          (node_there h.net h.place bits wide.0 placed.width) half-has)

-- ---- all sums, over a net that has grown out of the input

module _ (p : Products) (widths-of : HasWidths p) (net : Net) (from : Later (with_input p.input) net)
    (ready : Ready p.input (record { net = net; known = p.parts })) where
  abbrev pub start : Multiples
  start = record { net = net; known = p.parts }

  nodes : All (IsNode net) p.parts
  nodes = ready_nodes p.input start ready

  input-now : (new : Net) → Keeps net new → (inputs : Inputs) (t : ℤ)
      → val (flow new.nodes inputs 0 t) p.input ≡ recent p.input inputs t 0
  input-now new keeps inputs t =
      let input = with_input p.input in
      ap (λ w. val w p.input) ((keeps-then input net new (keeps-later input net from) keeps).nodes.flow inputs 0 t (omega arith))
      ∙ ap (λ u. val (input_at inputs 0 p.input.width u) p.input) (sym (same-time t))

  pub taps-has : (ts : List ℤ) → AreTaps p ts → all_zero ts ≡ false
      → (inputs : Inputs) (t : ℤ) → All (AreWords (input_widths net)) inputs
      → Has (sum_width p ts) (weighted ts (recent p.input inputs t) +ℤ pos p.half)
      (flow (with_taps p net ts).net.nodes inputs (with_taps p net ts).place t)
  taps-has [] are some inputs t words = absurd (cc)
  taps-has (c ∷ ts) are some inputs t words =
      go (all_zero ts) refl (λ e. taps-has ts (taps-tail p c ts are) e inputs (before t) words)
    where
      small : IsWithin 1048575 c
      small = All-head (IsWithin 1048575) c ts are.small

      odd : HasOddPart p.parts c
      odd = All-head (HasOddPart p.parts) c ts are.odd

      bits : ℕ
      bits = sum_width p (c ∷ ts)

      wide : IsWidth (sum_width p (c ∷ ts))
      wide = width-at p widths-of (c ∷ ts) are

      r : Recent
      r = recent p.input inputs t

      with_none : (y z h : ℤ) → z ≡ pos 0 → y +ℤ h ≡ (y +ℤ z) +ℤ h
      with_none y z h e = omega (arith, ints, e)

      moved_on : (y z h : ℤ) → (y +ℤ h) +ℤ z ≡ (z +ℤ y) +ℤ h
      moved_on y z h = omega (arith, ints)

      go : (e : Bool) → all_zero ts ≡ e
          → (all_zero ts ≡ false → Has (sum_width p ts) (weighted ts (recent p.input inputs (before t)) +ℤ pos p.half)
          (flow (with_taps p net ts).net.nodes inputs (with_taps p net ts).place (before t)))
          → Has (sum_width p (c ∷ ts)) (weighted (c ∷ ts) (recent p.input inputs t) +ℤ pos p.half)
          (flow (if e then first_product p (sum_width p (c ∷ ts)) net c else with_tap p c ts (with_taps p net ts)).net.nodes inputs
          (if e then first_product p (sum_width p (c ∷ ts)) net c else with_tap p c ts (with_taps p net ts)).place t)
      go true e rest =
          has bits _ _ _
          (ap (λ v. (v *ℤ c) +ℤ pos p.half) (input-now net (keeps-later net net (later-same net ready.valid)) inputs t)
          ∙ with_none (r 0 *ℤ c) (weighted_from 1 ts r) (pos p.half) (zeros-weighted ts 1 r e))
          (first-has p bits wide (half-fits p widths-of (c ∷ ts) are.few are.small) net ready inputs t words c
          (first-some c ts some e) small odd)
      go false e rest =
          let z = with_taps p net ts in
          let made = taps-placed p widths-of net ready.valid nodes ts (taps-tail p c ts are) e in
          let late = delayed z in
          let of_late = late-placed p widths-of net ready.valid nodes c ts are z made in
          let far = late-keeps p widths-of net ready.valid nodes c ts are z made in
          let of_wider = wider-placed p widths-of net ready.valid nodes c ts are z made in
          let keeps = wider-keeps p widths-of net ready.valid nodes c ts are z made in
          let wider = widened (own_format p ts).signed (sum_width p ts) bits late in
          let ago = recent p.input inputs (before t) in
          let w = weighted ts ago +ℤ pos p.half in
          let h : Has (sum_width p ts) w (flow late.net.nodes inputs late.place t) =
          subst (Has (sum_width p ts) w) (sym (flow-append_last z.net.nodes (Delay z.place) inputs t)) (rest e) in
          let held = λ (k : ℕ). input-held p.input widths-of.input net from inputs words (before t -ℤ pos k) in
          let g : Has bits w (flow wider.net.nodes inputs wider.place t) =
          widened-has (of_width p ts) bits late of_late.keeps.valid (width-at p widths-of ts (taps-tail p c ts are)) wide inputs t
          (words-kept net late.net far inputs words) w h (sum-holds p ts (c ∷ ts) ago held) in
          let moved : weighted ts ago ≡ weighted_from 1 ts r =
          weighted-later ts 0 r ago (λ k. ap (λ u. val (input_at inputs 0 p.input.width u) p.input) (before-is t k)) in
          has bits _ _ _
          (ap (λ v. w +ℤ (v *ℤ c)) (input-now wider.net keeps inputs t)
          ∙ ap (λ v. (v +ℤ pos p.half) +ℤ (r 0 *ℤ c)) moved
          ∙ moved_on (weighted_from 1 ts r) (r 0 *ℤ c) (pos p.half))
          (product-has p bits wide wider (ready-kept p net wider.net keeps ready) inputs t
          (words-kept net wider.net keeps inputs words) c w small odd
          (node_there wider.net wider.place bits wide.0 of_wider.width) g)
