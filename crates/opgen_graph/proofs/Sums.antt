-- The nodes of an adder: its operands, their sum or difference, and the bits of that above the lowest.
use Rattle.std.proofs.Common.{◌≡◌, ℕ, zero, suc, ◌+◌, ◌*◌, ◌^◌, ◌<◌, ◌≤◌, Bool, true, false, List, [], length, drop, Some, None, refl, sym, ap, ◌∙◌, subst, arith, ◌∷◌}
use Rattle.std.specs.Prelude.{ℤ, pos, ◌*ℤ◌, All, IsTrue, slice_index, option_and_then, nat_eq, nat_lt, if◌then◌else◌}
use Rattle.std.proofs.lemmas.Bool.{eq-eqb}
use Rattle.std.proofs.lemmas.List.{length-drop, take_all}
use Rattle.opgen_num.specs.declared.format.TheConstants.{MAX_WIDTH}
use Rattle.opgen_num.specs.declared.format.Format.{Format}
use Rattle.opgen_num.specs.Words.{val, nat}
use Rattle.opgen_design.specs.declared.expr.Op.{Op}
use Rattle.opgen_design.specs.declared.expr.Op.TheVariants.{Plus, Minus}
use Rattle.opgen_design.specs.Plain.{trees_of}
use Rattle.opgen_design.specs.Run.{AreWords}
use Rattle.opgen_design.specs.Tree.{name, chain, none, more}
use Rattle.opgen_design.specs.Value.{Scope, IsWidth, joined, width, width_on}
use Rattle.opgen_net.specs.declared.cell.Class.TheVariants.{Add}
use Rattle.opgen_net.specs.declared.net.Net.{Net}
use Rattle.opgen_net.specs.declared.node.Node.{Node}
use Rattle.opgen_net.specs.declared.node.Node.TheVariants.{Cells}
use Rattle.opgen_net.specs.declared.word_bits.WordBit.{WordBit}
use Rattle.opgen_net.specs.Flow.{Inputs, flow, streams_on, stream_at}
use Rattle.opgen_net.specs.Cells.{is_sum}
use Rattle.opgen_net.specs.Valid.{widths, input_widths, IsValid, FitsNodes}
use Rattle.opgen_net.specs.WordRule.{IsThere, bits_from}
use Rattle.opgen_net.proofs.Appending.{flow-append_last, width-append_last}
use Rattle.opgen_net.proofs.FlowWidths.{flow-width}
use Rattle.opgen_net.proofs.Grown.{grown-flow, grown-width}
use Rattle.opgen_net.specs.Placed.{Placed, with_bits, difference_of}
use Rattle.opgen_net.proofs.Later.{Later, later-same, later-then, later-node, words-later, node_there, bits-later}
use Rattle.opgen_net.proofs.BitLists.{length-bits_from, bits_from-there, bits_from-flow}
use Rattle.opgen_net.proofs.WordLaws.{word-has_bits, word-found_width, name-width}
use Rattle.opgen_graph.specs.declared.forms.Form.{Form}
use Rattle.opgen_graph.specs.declared.forms.Form.TheVariants.{A, B, C, D, E}
use Rattle.opgen_graph.specs.declared.multiples.Multiple.{Multiple}
use Rattle.opgen_graph.specs.declared.ranks.Adder.{Adder}
use Rattle.opgen_graph.specs.Adders.{Makes}
use Rattle.opgen_graph.specs.Placing.{IsNode, HasInput, IsMultiple}
use Rattle.opgen_graph.specs.Recipe.{operand, zeros_below, dropped, added, with_sum, without_lowest}
use Rattle.opgen_graph.proofs.Kept.{keeps-later, input_there, multiple-kept}
use Rattle.opgen_graph.proofs.Operands.{length-operand, operand-there, operand-residue}
use Rattle.opgen_graph.specs.Residues.{IsResidue}
use Rattle.opgen_graph.proofs.Residues.{Has, has, dropped-has, scaled}
use Rattle.opgen_graph.proofs.Steps.{added-has}

-- a net that has grown by nodes, of which one has so many bits
pub record IsPlacedNode (old : Net) (bits : ℕ) (p : Placed) : Type 0 where
  pub later : Later old p.net
  pub width : slice_index (widths p.net.nodes) p.place ≡ bits

-- operands

module _ (signed : Bool) (zeros bits : ℕ) (net : Net) (m : Multiple) (valid : IsValid net) (wide : IsWidth bits) (node : IsNode net m) where
  abbrev given : List WordBit
  given = operand signed zeros bits m

  pub given-wide : IsWidth (length given)
  given-wide = subst IsWidth (sym (length-operand signed zeros bits m)) wide

  pub given-there : All (IsThere (widths net.nodes)) given
  given-there = operand-there (widths net.nodes) signed zeros bits m node.some node.width

  pub operand-placed : IsPlacedNode net bits (with_bits net given)
  operand-placed = record {
    later = bits-later net valid given given-wide given-there;
    width = word-found_width net valid given given-there ∙ length-operand signed zeros bits m;
  }

pub operand-has : (format : Format) (zeros bits : ℕ) (net : Net) (m : Multiple) → IsValid net → IsWidth bits → IsMultiple format net m
    → (inputs : Inputs) (t : ℤ) → All (AreWords (input_widths net)) inputs
    → Has bits (val (flow net.nodes inputs 0 t) format *ℤ pos (2 ^ zeros * m.factor))
    (flow (with_bits net (operand format.signed zeros bits m)).net.nodes inputs
    (with_bits net (operand format.signed zeros bits m)).place t)
operand-has format zeros bits net m valid wide of inputs t words =
    let bs = operand format.signed zeros bits m in
    let made = with_bits net bs in
    let there = given-there format.signed zeros bits net m valid wide of.node in
    let answers = operand-placed format.signed zeros bits net m valid wide of.node in
    let long : length (flow net.nodes inputs m.node t) ≡ m.width = flow-width net valid inputs words m.node t ∙ of.node.width in
    let number = ap nat (word-has_bits net valid bs there inputs t words) in
    let residue = operand-residue net.nodes inputs t format m of.node.some long zeros bits in
    has bits _ _ (flow made.net.nodes inputs made.place t)
    (ap (λ z. pos (2 ^ zeros) *ℤ z) (of.product inputs t words) ∙ scaled (2 ^ zeros) (val (flow net.nodes inputs 0 t) format) m.factor)
    (record {
      width = flow-width made.net answers.later.valid inputs (words-later net made.net answers.later inputs words) made.place t
          ∙ answers.width;
      residue = subst (IsResidue bits (pos (2 ^ zeros) *ℤ val (flow net.nodes inputs m.node t) format)) (sym number) residue;
    })

-- sums

module _ (ws : List ℕ) where
  pub pair-fits : (op : Op) (a b v : ℕ) → joined op v v ≡ (if nat_eq v v then Some v else None) → IsWidth v
      → slice_index ws a ≡ v → slice_index ws b ≡ v → FitsNodes ws v (chain op (trees_of (name a ∷ name b ∷ [])))
  pair-fits op a b v j w h g = record {
    has_width = ap (option_and_then (λ u. width_on ws [] op u (more (name b) none))) (name-width ws a v w h)
        ∙ ap (option_and_then (λ u. option_and_then (λ x. Some x) (joined op v u))) (name-width ws b v w g)
        ∙ ap (option_and_then (λ x. Some x)) j
        ∙ ap (λ (c : Bool). option_and_then (λ x. Some x) (if c then Some v else None)) (eq-eqb v v refl);
    nests = omega arith;
  }

  pub added-fits : (form : Form) (u v a b bits : ℕ) → IsWidth bits → slice_index ws a ≡ bits → slice_index ws b ≡ bits
      → FitsNodes ws bits (added form u v a b)
  added-fits A u v a b bits w h g = pair-fits Plus a b bits refl w h g
  added-fits B u v a b bits w h g = pair-fits Minus a b bits refl w h g
  added-fits C u v a b bits w h g = pair-fits Minus b a bits refl w g h
  added-fits D u v a b bits w h g = pair-fits Plus a b bits refl w h g
  added-fits E u v a b bits w h g = go (nat_lt u v)
    where
      go : (t : Bool) → FitsNodes ws bits (if t then difference_of b a else difference_of a b)
      go true = pair-fits Minus b a bits refl w g h
      go false = pair-fits Minus a b bits refl w h g

-- an adder's node is one sum of two nodes
pub added-sum : (form : Form) (u v a b : ℕ) → IsTrue (is_sum (added form u v a b))
added-sum A u v a b = refl
added-sum B u v a b = refl
added-sum C u v a b = refl
added-sum D u v a b = refl
added-sum E u v a b = go (nat_lt u v)
  where
    go : (t : Bool) → IsTrue (is_sum (if t then difference_of b a else difference_of a b))
    go true = refl
    go false = refl

module _ (signed : Bool) (bits : ℕ) (net : Net) (a : Adder) (u v : Multiple) (valid : IsValid net) (wide : IsWidth bits)
    (node_u : IsNode net u) (node_v : IsNode net v) where
  abbrev pub first : Placed
  first = with_bits net (operand signed (zeros_below a.step.form a.step.shift) bits u)

  abbrev pub second : Placed
  second = with_bits first.net (operand signed 0 bits v)

  abbrev node : Node
  node = Cells Add bits (added a.step.form a.u a.v first.place second.place)

  abbrev third : Placed
  third = with_sum signed bits net a u v

  pub first-placed : IsPlacedNode net bits first
  first-placed = operand-placed signed (zeros_below a.step.form a.step.shift) bits net u valid wide node_u

  pub v-kept : IsNode first.net v
  v-kept = record {
    some = node_v.some;
    most = node_v.most;
    width = grown-width net first.net first-placed.later.grown v.node (node_there net v.node v.width node_v.some node_v.width)
        ∙ node_v.width;
  }

  pub second-placed : IsPlacedNode first.net bits second
  second-placed = operand-placed signed 0 bits first.net v first-placed.later.valid wide v-kept

  pub first-there : first.place < length first.net.nodes
  first-there = node_there first.net first.place bits wide.0 first-placed.width

  pub node-fits : FitsNodes (widths second.net.nodes) bits (added a.step.form a.u a.v first.place second.place)
  node-fits =
      added-fits (widths second.net.nodes) a.step.form a.u a.v first.place second.place bits wide
      (grown-width first.net second.net second-placed.later.grown first.place first-there ∙ first-placed.width)
      second-placed.width

  pub second-later : Later net second.net
  second-later = later-then net first.net second.net first-placed.later second-placed.later

  pub sum-placed : IsPlacedNode net bits third
  sum-placed = record {
    later = later-then net second.net third.net second-later (later-node second.net node second-placed.later.valid (added-sum a.step.form a.u a.v first.place second.place, node-fits) refl);
    width = width-append_last second.net.nodes node;
  }

-- the Add node is the input times the adder's number, above the bits that are dropped
pub sum-has : (format : Format) (bits : ℕ) (net : Net) (a : Adder) (u v : Multiple) → IsValid net → IsWidth bits → HasInput format net
    → IsMultiple format net u → IsMultiple format net v → u.factor ≡ a.u → v.factor ≡ a.v → Makes a.step.form a.step.shift a.u a.v a.value
    → (inputs : Inputs) (t : ℤ) → All (AreWords (input_widths net)) inputs
    → Has bits (val (flow net.nodes inputs 0 t) format *ℤ pos (2 ^ dropped a.step.form a.step.shift * a.value))
    (flow (with_sum format.signed bits net a u v).net.nodes inputs (with_sum format.signed bits net a u v).place t)
sum-has format bits net a u v valid wide input of_u of_v is_u is_v makes inputs t words =
    let zeros = zeros_below a.step.form a.step.shift in
    let one = with_bits net (operand format.signed zeros bits u) in
    let two = with_bits one.net (operand format.signed 0 bits v) in
    let tree = added a.step.form a.u a.v one.place two.place in
    let x = val (flow net.nodes inputs 0 t) format in
    let to_one = first-placed format.signed bits net a u v valid wide of_u.node of_v.node in
    let to_two = second-placed format.signed bits net a u v valid wide of_u.node of_v.node in
    let s : Scope = record { names = λ n. stream_at (streams_on inputs [] two.net.nodes) n t; ports = λ n. [] } in
    let same_x : val (flow one.net.nodes inputs 0 t) format ≡ x =
    ap (λ w. val w format) (grown-flow net one.net to_one.later.grown inputs 0 t (input_there format net input)) in
    let kept : flow two.net.nodes inputs one.place t ≡ flow one.net.nodes inputs one.place t =
    grown-flow one.net two.net to_two.later.grown inputs one.place t
    (first-there format.signed bits net a u v valid wide of_u.node of_v.node) in
    let has_u : Has bits (x *ℤ pos (2 ^ zeros * a.u)) (flow two.net.nodes inputs one.place t) =
    subst (Has bits (x *ℤ pos (2 ^ zeros * a.u))) (sym kept)
    (has bits _ _ _ (ap (λ f. x *ℤ pos (2 ^ zeros * f)) is_u) (operand-has format zeros bits net u valid wide of_u inputs t words)) in
    let of_v_one = multiple-kept format net one.net (keeps-later net one.net to_one.later) input v of_v in
    let words_one = words-later net one.net to_one.later inputs words in
    let has_v : Has bits (x *ℤ pos (2 ^ 0 * a.v)) (flow two.net.nodes inputs two.place t) =
    has bits _ _ _ (ap (λ y. y *ℤ pos (2 ^ 0 * v.factor)) same_x ∙ ap (λ f. x *ℤ pos (2 ^ 0 * f)) is_v)
    (operand-has format 0 bits one.net v to_one.later.valid wide of_v_one inputs t words_one) in
    subst (Has bits (x *ℤ pos (2 ^ dropped a.step.form a.step.shift * a.value)))
    (sym (flow-append_last two.net.nodes (Cells Add bits tree) inputs t))
    (added-has s bits x a.step.form a.step.shift a.u a.v a.value one.place two.place makes has_u has_v)

-- the bits above the lowest

module _ (net : Net) (sum bits : ℕ) (valid : IsValid net) (some : 1 ≤ bits) where
  abbrev from : Placed
  from = record { net = net; place = sum }

  module _ (low : ℕ) (few : bits + low ≤ MAX_WIDTH) (wide : slice_index (widths net.nodes) sum ≡ bits + low) where
    abbrev high : List WordBit
    high = bits_from sum low bits

    high-wide : IsWidth (length high)
    high-wide = (omega (arith, length-bits_from sum low bits, some), omega (arith, length-bits_from sum low bits, few))

    high-there : All (IsThere (widths net.nodes)) high
    high-there = bits_from-there (widths net.nodes) sum low bits (omega (arith, wide))

    high-placed : IsPlacedNode net bits (with_bits net high)
    high-placed = record {
      later = bits-later net valid high high-wide high-there;
      width = word-found_width net valid high high-there ∙ length-bits_from sum low bits;
    }

    high-word : (inputs : Inputs) (t : ℤ) → All (AreWords (input_widths net)) inputs
        → flow (with_bits net high).net.nodes inputs (with_bits net high).place t ≡ drop low (flow net.nodes inputs sum t)
    high-word inputs t words =
        let w = flow net.nodes inputs sum t in
        let long : length w ≡ bits + low = flow-width net valid inputs words sum t ∙ wide in
        word-has_bits net valid high high-there inputs t words
        ∙ bits_from-flow net.nodes inputs t sum low bits (omega (arith, long))
        ∙ take_all bits (drop low w) (omega (arith, long, length-drop low w))

  pub lowest-placed : (low : ℕ) → bits + low ≤ MAX_WIDTH → slice_index (widths net.nodes) sum ≡ bits + low
      → IsPlacedNode net bits (without_lowest low bits from)
  lowest-placed zero few wide = record { later = later-same net valid; width = wide ∙ omega arith }
  lowest-placed (suc low) few wide = high-placed (suc low) few wide

  pub lowest-has : (low : ℕ) → bits + low ≤ MAX_WIDTH → slice_index (widths net.nodes) sum ≡ bits + low
      → (z : ℤ) (inputs : Inputs) (t : ℤ) → All (AreWords (input_widths net)) inputs
      → Has (bits + low) (pos (2 ^ low) *ℤ z) (flow net.nodes inputs sum t)
      → Has bits z (flow (without_lowest low bits from).net.nodes inputs (without_lowest low bits from).place t)
  lowest-has zero few wide z inputs t words h = dropped-has 0 bits (flow net.nodes inputs sum t) z h
  lowest-has (suc low) few wide z inputs t words h =
      subst (Has bits z) (sym (high-word (suc low) few wide inputs t words)) (dropped-has (suc low) bits (flow net.nodes inputs sum t) z h)
