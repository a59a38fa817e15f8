-- In a net's design the two sides of each equation have one width.
use Rattle.std.proofs.Common.{◌≡◌, ℕ, zero, suc, ◌+◌, ◌-◌, ◌<◌, ◌≤◌, Bool, true, false, List, [], ◌∷◌, ◌++◌, length, get_or, Some, None, refl, sym, ap, ◌∙◌, subst, arith, inl, inr}
use Rattle.std.specs.Prelude.{◌&&◌, negsuc, Option, option_and_then, if◌then◌else◌, nat_le, nat_lt, IfSome, is_some, All, slice_get, slice_index}
use Rattle.std.proofs.lemmas.Bool.{cond-true, and_from, le-leb, lt-ltb}
use Rattle.std.proofs.lemmas.Nat.{pow_pos}
use Rattle.std.proofs.lemmas.List.Elements.{All-nil, All-head, All-tail, All-weaker}
use Rattle.std.proofs.lemmas.Option.{slice_get-get_or, get_or_from_slice_get, slice_get_within}
use Rattle.opgen_num.specs.WordLaws.{length-word}
use Rattle.opgen_design.specs.declared.expr.Slice.{Slice}
use Rattle.opgen_net.specs.declared.node.Node.{Node}
use Rattle.opgen_net.specs.declared.node.Node.TheVariants.{Input, Constant, Cells, Choice, Table, Delay}
use Rattle.opgen_net.specs.declared.net.Net.{Net}
use Rattle.opgen_net.specs.declared.net.Output as net_output
use Rattle.opgen_design.specs.declared.design.Design.{Design}
use Rattle.opgen_design.specs.declared.design.Driver.TheVariants.{Output}
use Rattle.opgen_design.specs.Tree.{Tree, name, part}
use Rattle.opgen_design.specs.Value.{IsWidth, as_width, width}
use Rattle.opgen_design.specs.Run.{AreWords, enable_inputs}
use Rattle.opgen_net.specs.Flow.{flow}
use Rattle.opgen_net.specs.Valid as valid_net
use Rattle.opgen_net.specs.Valid.{widths, slice_width, node_width, LiesWithin, IsValid}
use Rattle.opgen_net.specs.Made.{addressed, input_port, output_port}
use Rattle.opgen_design.specs.declared.sound.Rule.TheVariants.{Width}
use Rattle.opgen_design.specs.Sound.{signal_widths, port_widths, HasWidth, WidthsAgree, IsSignalWide, Holds}
use Rattle.opgen_design.proofs.WidthLaws.{as_width-of}
use Rattle.opgen_design.proofs.SoundLaws.{at-contains}
use Rattle.opgen_net.proofs.FlowLaws.{lies_within, length-widths}
use Rattle.opgen_net.proofs.InputLaws.{input-width, input_node}
use Rattle.opgen_net.proofs.FlowWidths.{are_widths, slice-is_width, flow-width}
use Rattle.opgen_net.proofs.Standing.{may_stand, width_at}
use Rattle.opgen_schedule.specs.Reads.{reads_of}
use Rattle.opgen_schedule.specs.Schedule.{Schedule, Fits}
use Rattle.opgen_pipe.specs.declared.standing.Standing.{Standing}
use Rattle.opgen_pipe.specs.Copies.{copies, net_latency, signals_before}
use Rattle.opgen_pipe.specs.Standings.{standing_of, standings, standing_at}
use Rattle.opgen_pipe.specs.Reading.{read_in, slice_in}
use Rattle.opgen_pipe.specs.Pipelined.{zero_word, initial_of, own_driver, copy_register, ports_of, drivers_of, design_of}
use Rattle.opgen_pipe.proofs.Lists.{get-right, get-append, get-map, get-mapped}
use Rattle.opgen_pipe.proofs.Copied.{standing-is, node_there, ReadIn, copy_of_read, reads_in, output_reads_in}
use Rattle.opgen_pipe.proofs.Parts.{signal_width, by_signal, by_driver, by_port, port-in, port-output}
use Rattle.opgen_pipe.proofs.TableWords.{length-addressed, get-addressed}
use Rattle.opgen_pipe.proofs.Trees.{HasWidthOf, part-width, tree-width}
use Rattle.opgen_pipe.proofs.Follows.{cells-read}
use Rattle.opgen_pipe.proofs.SoundParts.{holds}

-- a part that lies within its node has its width
lying-width : (ws qs : List ℕ) → ((i : ℕ) → i < length ws → IsWidth (slice_index ws i)) → (s : Slice) → LiesWithin ws s
    → width ws qs (part s.node s.high s.low) ≡ Some (slice_width s)
lying-width ws qs all s h =
    let w = slice_index ws s.node in
    let there = lies_within ws s h in
    let test = and_from (nat_le s.low s.high) (nat_lt s.high w) (le-leb s.low s.high h.0) (lt-ltb s.high w h.1) in
    let step : ℕ → Option ℕ = λ w. if nat_le s.low s.high && nat_lt s.high w then as_width (s.high + 1 - s.low) else None in
    ap (option_and_then step) (slice_get-get_or ws s.node 0 there)
    ∙ cond-true (nat_le s.low s.high && nat_lt s.high w) (as_width (s.high + 1 - s.low)) None test
    ∙ as_width-of (slice_width s) (slice-is_width ws all s h)

enable-wide : (enable : Bool) (i : ℕ) (x : List ℕ × ℕ) → slice_get (enable_inputs enable) i ≡ Some x → x.1 ≡ 1
enable-wide true zero x h = ap (λ o. unwrap o) (sym h)
  where
    unwrap : Option (List ℕ × ℕ) → ℕ
    unwrap None = 0
    unwrap (Some x) = x.1
enable-wide true (suc i) x h = absurd (cc)
enable-wide false i x h = absurd (cc)

module _ (called : List ℕ) (enable : Bool) (net : Net) (s : Schedule) (delays : List ℕ) (setup period : ℕ) (valid : IsValid net)
    (fits : Fits net.nodes delays setup period s) where
  abbrev d : Design
  d = design_of called enable net s

  abbrev ps : List Standing
  ps = standings net s

  abbrev ws : List ℕ
  ws = widths net.nodes

  abbrev ms : List ℕ
  ms = signal_widths (design_of called enable net s)

  abbrev qs : List ℕ
  qs = port_widths (design_of called enable net s)

  is_width : (i : ℕ) → i < length (widths net.nodes) → IsWidth (slice_index (widths net.nodes) i)
  is_width i l = are_widths net.nodes valid.nodes i (omega (arith, l, length-widths net.nodes))

  -- the signal of a node, and of each copy, has the node's width
  wide : (i k : ℕ) (n : Node) → slice_get net.nodes i ≡ Some n → k ≤ copies net s i
      → slice_get (signal_widths (design_of called enable net s)) (signals_before (copies net s) i + k)
      ≡ Some (slice_index (widths net.nodes) i)
  wide i k n h l = signal_width net s i k n h l

  own : (i : ℕ) (n : Node) → slice_get net.nodes i ≡ Some n
      → slice_index (signal_widths (design_of called enable net s)) (signals_before (copies net s) i) ≡ slice_index (widths net.nodes) i
  own i n h =
      let e : signals_before (copies net s) i ≡ signals_before (copies net s) i + 0 = omega arith in
      ap (slice_index (signal_widths (design_of called enable net s))) e
      ∙ get_or_from_slice_get (signal_widths (design_of called enable net s)) (signals_before (copies net s) i + 0)
      (slice_index (widths net.nodes) i) 0 (wide i 0 n h (omega arith))

  -- and of a kind's width
  own_node : (i : ℕ) (n : Node) → slice_get net.nodes i ≡ Some n
      → slice_index (signal_widths (design_of called enable net s)) (signals_before (copies net s) i) ≡ node_width (widths net.nodes) n
  own_node i n h = own i n h ∙ width_at net.nodes valid.nodes i n h

  -- what is read of a node in a cycle has the node's width
  read_width : (at j : ℕ) → j < length net.nodes → ReadIn net s at j
      → (slice_get (signal_widths (design_of called enable net s)) (read_in (standings net s) at j)
      ≡ Some (slice_index (widths net.nodes) j))
      × ((standing_at (standings net s) j).width ≡ slice_index (widths net.nodes) j)
  read_width at j l r =
      let n = get_or net.nodes j (Delay 0) in
      let h = node_there net s j l in
      let q = copy_of_read net s at j l r in (
        ap (slice_get (signal_widths (design_of called enable net s))) q.is
            ∙ wide j q.copy n h q.within,
        ap (λ o. o.width) (standing-is net s j n h),
      )

  abbrev Wide : ℕ → ℕ → Type 0
  Wide at = HasWidthOf (standings net s) at (widths net.nodes) (signal_widths (design_of called enable net s))
      (port_widths (design_of called enable net s))

  read_wide : (at j : ℕ) → j < length net.nodes → ReadIn net s at j → Wide at j
  read_wide at j l r = λ w h.
      let x = read_width at j l r in
      let same : slice_index (widths net.nodes) j ≡ w = get_or_from_slice_get (widths net.nodes) j w 0 h in
      (x.0 ∙ ap Some same, x.1 ∙ same)

  operands : (i : ℕ) (n : Node) → slice_get net.nodes i ≡ Some n
      → All (λ j. (j < length net.nodes) × ReadIn net s (s i).cycle j) (reads_of n)
  operands i n h =
      let l = slice_get_within net.nodes i n h in
      All-weaker (λ j. (j < i) × ReadIn net s (s i).cycle j) (λ j. (j < length net.nodes) × ReadIn net s (s i).cycle j)
      (λ j q. (omega (arith, l, q.0), q.1)) (reads_of n)
      (reads_in net s delays setup period valid fits i n h)

  -- a name that is read has its node's width
  name_width : (at j u : ℕ) → j < length net.nodes → ReadIn net s at j → slice_index (widths net.nodes) j ≡ u
      → HasWidth (design_of called enable net s) (name (read_in (standings net s) at j)) u
  name_width at j u l r e =
      ap (option_and_then as_width) (read_width at j l r).0
      ∙ as_width-of (slice_index (widths net.nodes) j) (is_width j (omega (arith, l, length-widths net.nodes)))
      ∙ ap Some e

  slice_width-of : (at : ℕ) (x : Slice) (u : ℕ) → LiesWithin (widths net.nodes) x → ReadIn net s at x.node → slice_width x ≡ u
      → HasWidth (design_of called enable net s) (slice_in (standings net s) at x) u
  slice_width-of at x u lies r e =
      let there : x.node < length net.nodes = omega (arith, lies_within (widths net.nodes) x lies, length-widths net.nodes) in
      part-width (standings net s) at (widths net.nodes) (signal_widths (design_of called enable net s))
      (port_widths (design_of called enable net s)) x.node x.high x.low (slice_width x)
      (read_wide at x.node there r) (lying-width (widths net.nodes) [] is_width x lies)
      ∙ ap Some e

  node_agrees : (i : ℕ) (n : Node) → slice_get net.nodes i ≡ Some n
      → WidthsAgree (design_of called enable net s) (own_driver (length (enable_inputs enable)) (standings net s) (standing_of net s i n) n)
  node_agrees i (Input place w) h =
      let x = get-map (λ y. y.1) net.inputs place w (input-width net valid i place w h) in
      let ins = enable_inputs enable ++ net.inputs in
      let at : slice_get ins (length (enable_inputs enable) + place)
      ≡ Some x.0 = get-right (enable_inputs enable) net.inputs (length (enable_inputs enable) + place) place refl ∙ x.1 in
      let wide : slice_get (port_widths (design_of called enable net s)) (length (enable_inputs enable) + place) ≡ Some x.0.1 =
      get-mapped (λ p. p.width) (ports_of enable net) (length (enable_inputs enable) + place) (input_port x.0)
      (port-in enable net (length (enable_inputs enable) + place) x.0 at) in
      ap (option_and_then as_width) wide
      ∙ ap as_width x.2
      ∙ as_width-of w (may_stand net.nodes valid.nodes i (Input place w) h)
      ∙ ap Some (sym (own_node i (Input place w) h))
  node_agrees i (Constant w) h = as_width-of (length w) (may_stand net.nodes valid.nodes i (Constant w) h)
      ∙ ap Some (sym (own_node i (Constant w) h))
  node_agrees i (Cells class w e) h =
      let stands = may_stand net.nodes valid.nodes i (Cells class w e) h in
      tree-width (standings net s) (s i).cycle (widths net.nodes) (signal_widths (design_of called enable net s))
      (port_widths (design_of called enable net s)) e w
      (
      cells-read (widths net.nodes) (Wide (s i).cycle) class w e stands
      (
      All-weaker (λ j. (j < length net.nodes) × ReadIn net s (s i).cycle j) (Wide (s i).cycle) (λ j q. read_wide (s i).cycle j q.0 q.1)
      (reads_of (Cells class w e))
      (operands i (Cells class w e) h)
      )
      )
      stands.1.has_width
      ∙ ap Some (sym (own_node i (Cells class w e) h))
  node_agrees i (Choice on one other) h =
      let stands = may_stand net.nodes valid.nodes i (Choice on one other) h in
      let P : ℕ → Type 0 = λ j. (j < length net.nodes) × ReadIn net s (s i).cycle j in
      let a = operands i (Choice on one other) h in
      let b = All-tail P on (one.node ∷ other.node ∷ []) a in
      let x = All-head P on (one.node ∷ other.node ∷ []) a in
      let y = All-head P one.node (other.node ∷ []) b in
      let z = All-head P other.node [] (All-tail P one.node (other.node ∷ []) b) in (
        name_width (s i).cycle on 1 x.0 x.1 stands.one_bit,
        slice_width-of (s i).cycle one _ stands.one_lies y.1 (sym (own_node i (Choice on one other) h)),
        slice_width-of (s i).cycle other _ stands.other_lies z.1 (sym stands.same_width ∙ sym (own_node i (Choice on one other) h)),
      )
  node_agrees i (Table address rows) h =
      let stands = may_stand net.nodes valid.nodes i (Table address rows) h in
      let x = All-head (λ j. (j < length net.nodes) × ReadIn net s (s i).cycle j) address [] (operands i (Table address rows) h) in
      let w = (standing_at (standings net s) address).width in
      let to = signals_before (copies net s) i in
      let on : Tree = name (read_in (standings net s) (s i).cycle address) in
      let has : HasWidth (design_of called enable net s) on w = name_width (s i).cycle address w x.0 x.1
      (sym (read_width (s i).cycle address x.0 x.1).1) in
      let positive : 1 ≤ length rows = omega (arith, stands.row_for_each, pow_pos (slice_index (widths net.nodes) address)) in
      let own = sym (own_node i (Table address rows) h) in
      let of_row : All (λ r. HasWidth (design_of called enable net s) on (length r.0)
      × (length r.1 ≡ slice_index (signal_widths (design_of called enable net s)) to)) (addressed w 0 rows) =
      λ k e l.
      let small : k + 1 < length rows = omega (arith, l, length-addressed w 0 rows) in
      let at = get-addressed w rows k e small in
      subst (λ r. HasWidth (design_of called enable net s) on (length r.0)
      × (length r.1 ≡ slice_index (signal_widths (design_of called enable net s)) to)) (sym at) (
        has ∙ ap Some (sym (length-word w k)),
        stands.same_width k [] (omega (arith, small)) ∙ own,
      ) in
      (of_row, ap is_some has, stands.same_width (length rows - 1) [] (omega (arith, positive)) ∙ own)
  node_agrees i (Delay of) h =
      let x = All-head (λ j. (j < length net.nodes) × ReadIn net s (s i).cycle j) of [] (operands i (Delay of) h) in
      name_width (s i).cycle of _ x.0 x.1 (sym (own_node i (Delay of) h))

  copy_agrees : (i k : ℕ) (n : Node) → slice_get net.nodes i ≡ Some n → k < copies net s i
      → WidthsAgree (design_of called enable net s) (copy_register (standing_of net s i n) k)
  copy_agrees i k n h l =
      let a = signals_before (copies net s) i in
      let e : a + 1 + k ≡ a + suc k = omega arith in
      let there : i < length (widths net.nodes) = omega (arith, slice_get_within net.nodes i n h, length-widths net.nodes) in
      ap (option_and_then as_width) (wide i k n h (omega (arith, l)))
      ∙ as_width-of (slice_index (widths net.nodes) i) (is_width i there)
      ∙ ap Some (sym (ap (slice_index (signal_widths (design_of called enable net s))) e
      ∙ get_or_from_slice_get (signal_widths (design_of called enable net s)) (a + suc k) (slice_index (widths net.nodes) i) 0
      (wide i (suc k) n h (omega (arith, l)))))

  lies : (j : ℕ) (o : net_output.Output) → slice_get net.outputs j ≡ Some o → LiesWithin (widths net.nodes) o.from
  lies j o h =
      subst (λ x. LiesWithin (widths net.nodes) x.from) (get_or_from_slice_get net.outputs j o o h)
      (valid.outputs j o (slice_get_within net.outputs j o h))

  output_agrees : (j : ℕ) (o : net_output.Output) → slice_get net.outputs j ≡ Some o
      → WidthsAgree (design_of called enable net s)
      (Output (length (enable_inputs enable) + length net.inputs + j) (slice_in (standings net s) (net_latency net s) o.from))
  output_agrees j o h =
      let place = length (enable_inputs enable) + length net.inputs + j in
      slice_width-of (net_latency net s) o.from _ (lies j o h) (output_reads_in net s delays setup period valid fits j o h).1
      (
      sym (get_or_from_slice_get (port_widths (design_of called enable net s)) place (slice_width o.from) 0
      (get-mapped (λ p. p.width) (ports_of enable net) place (output_port o) (port-output enable net j o h)))
      )

  input-is_width : (i : ℕ) (x : List ℕ × ℕ) → slice_get (enable_inputs enable ++ net.inputs) i ≡ Some x → IsWidth x.1
  input-is_width i x h =
      elim (get-append (enable_inputs enable) net.inputs i x h) [
        | inl a ↦ subst IsWidth (sym (enable-wide enable i x a)) (omega arith, omega arith)
        | inr b ↦
            let node = input_node net valid b.0 x.1 (get-mapped (λ y. y.1) net.inputs b.0 x b.2) in
            may_stand net.nodes valid.nodes node.0 (Input b.0 x.1) node.1
      ]

  zero_width : (i : ℕ) → length (flow net.nodes [] i (negsuc 0)) ≡ slice_index (widths net.nodes) i
  zero_width i = flow-width net valid [] (All-nil (AreWords (valid_net.input_widths net))) i (negsuc 0)

  initial_width : (i : ℕ) (n : Node) → IfSome (initial_of (zero_word net i) n) (λ w. length w ≡ slice_index (widths net.nodes) i)
  initial_width i (Input place w) = tt
  initial_width i (Constant w) = tt
  initial_width i (Cells class w e) = tt
  initial_width i (Choice on one other) = tt
  initial_width i (Table address rows) = tt
  initial_width i (Delay of) = zero_width i

  node_wide : (i : ℕ) (n : Node) → slice_get net.nodes i ≡ Some n → IsWidth (slice_index (widths net.nodes) i)
  node_wide i n h = is_width i (omega (arith, slice_get_within net.nodes i n h, length-widths net.nodes))

  pub widths_agree : Holds (design_of called enable net s) Width
  widths_agree =
      holds (design_of called enable net s) Width tt
      (by_port enable net (λ i p. IsWidth p.width) input-is_width (λ j o h. slice-is_width (widths net.nodes) is_width o.from (lies j o h)))
      (by_signal net s (λ i x. IsSignalWide x) (λ i n h. (node_wide i n h, initial_width i n))
      (λ i k n h l. (node_wide i n h, zero_width i)))
      (λ i k h. by_driver net s enable (WidthsAgree (design_of called enable net s)) node_agrees copy_agrees output_agrees k
      (at-contains (drivers_of enable net s) i k h))
