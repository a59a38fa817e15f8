-- The words of a run are those of the net's flow, later by the cycles in which nodes and copies stand.
use Rattle.std.proofs.Common.{◌≡◌, ℕ, zero, suc, ◌+◌, ◌<◌, ◌≤◌, Bool, true, false, List, [], ◌∷◌, ◌++◌, length, map, get_or, drop, Some, None, refl, sym, ap, ◌∙◌, subst, arith, inl, inr}
use Rattle.std.specs.Prelude.{ℤ, pos, negsuc, option_map, unwrap_or, All, Contains, ◌^◌, slice_get, slice_index}
use Rattle.std.proofs.lemmas.Bool.{cases_Bool}
use Rattle.std.proofs.lemmas.List.{length-map, length-drop, ext_get_or, get_or-drop}
use Rattle.std.proofs.lemmas.List.Elements.{All-contains, All-head, All-tail, All-weaker}
use Rattle.std.proofs.lemmas.Option.{slice_get-get_or, slice_get-map, get_or_from_slice_get, slice_get_within}
use Rattle.opgen_num.specs.Words.{nat}
use Rattle.opgen_net.specs.declared.cell.Class.{Class}
use Rattle.opgen_net.specs.declared.node.Node.{Node}
use Rattle.opgen_net.specs.declared.node.Node.TheVariants.{Input, Constant, Cells, Choice, Table, Delay}
use Rattle.opgen_net.specs.declared.net.Net.{Net}
use Rattle.opgen_net.specs.declared.net.Output as net_output
use Rattle.opgen_design.specs.declared.design.Design.{Design}
use Rattle.opgen_design.specs.declared.design.Driver.{Driver}
use Rattle.opgen_design.specs.declared.design.Driver.TheVariants as driver
use Rattle.opgen_design.specs.Tree.{Tree}
use Rattle.opgen_design.specs.Sound.{AllReads}
use Rattle.opgen_design.specs.Value.{Scope, word_at, chosen}
use Rattle.opgen_net.specs.Flow.{Inputs, before, input_from, flow, slice_flow, stream_of, streams_on}
use Rattle.opgen_net.specs.Valid.{widths, MayStand, IsValid}
use Rattle.opgen_net.specs.Valid as valid_net
use Rattle.opgen_design.specs.Run.{Words, scope, Meets, Cycle, RunsOn, Run, initial_words, words_at_outputs, without_enable, enable_inputs, data_inputs}
use Rattle.opgen_design.proofs.UseLaws.{reads-lists, lists-reads}
use Rattle.opgen_design.proofs.ReadLaws.{reads-weaker}
use Rattle.opgen_design.proofs.WidthLaws.{width-reads}
use Rattle.opgen_net.proofs.FlowLaws.{flow_equation, index_within, length-widths}
use Rattle.opgen_net.proofs.FlowBefore.{flow-before}
use Rattle.opgen_net.proofs.InputLaws.{input-width, width-at}
use Rattle.opgen_net.proofs.Standing.{may_stand}
use Rattle.opgen_schedule.specs.Reads.{reads_of, is_constant, is_some_constant, is_constant_at}
use Rattle.opgen_schedule.specs.Schedule.{Schedule, Fits}
use Rattle.opgen_pipe.specs.declared.standing.Standing.{Standing}
use Rattle.opgen_pipe.specs.Times.{ago}
use Rattle.opgen_pipe.specs.Copies.{copies, net_latency, signals_before, signal_of}
use Rattle.opgen_pipe.specs.Standings.{standing_of, standings, standing_at}
use Rattle.opgen_pipe.specs.Reading.{read_in, slice_in}
use Rattle.opgen_pipe.specs.Pipelined.{zero_word, all_of, own_signal, copy_signal, node_signals, own_driver, copy_register, ports_of, drivers_of, design_of}
use Rattle.opgen_pipe.specs.Laws.{FollowsFlow}
use Rattle.opgen_pipe.proofs.Lists.{get-mapped}
use Rattle.opgen_pipe.proofs.Copied.{standing-is, node_there, ReadIn, copy_of_read, reads_in, output_reads_in}
use Rattle.opgen_pipe.proofs.Parts.{signal-own, signal-copy, signal_width, has_own_driver, has_copy_register, has_output_driver, length-ins, length-ports}
use Rattle.opgen_pipe.proofs.PortWords.{get-inputs, outputs-rest}
use Rattle.opgen_pipe.proofs.TableWords.{table_word}
use Rattle.opgen_pipe.proofs.Trees.{NoPorts, HasWord, tree-value, part-value}

-- times

pub ago-next : (u k : ℕ) → ago (suc u) (suc k) ≡ ago u k
ago-next u zero = refl
ago-next u (suc k) = ap before (ago-next u k)

pub ago-start : (k : ℕ) → ago 0 (suc k) ≡ negsuc k
ago-start zero = refl
ago-start (suc k) = ap before (ago-start k)

-- what a node of an expression reads, in the expression
pub cells-read : (ws : List ℕ) (P : ℕ → Type 0) (class : Class) (w : ℕ) (e : Tree) → MayStand ws (Cells class w e)
    → All P (reads_of (Cells class w e)) → AllReads P NoPorts e
cells-read ws P class w e h a =
    let r = reads-weaker (λ j. j < length ws) (λ p. p < 0) (λ j. j < length ws) NoPorts (λ j l. l) (λ p l. absurd (omega (arith, l))) e
    (width-reads ws [] e w h.1.has_width) in
    lists-reads P NoPorts e a (reads-lists (λ j. j < length ws) NoPorts e r).1

pub chosen_same : (a b c x y z : List Bool) → a ≡ x → b ≡ y → c ≡ z → chosen a b c ≡ chosen x y z
chosen_same a b c x y z h i j = ap (λ n. chosen n b c) h ∙ ap (λ n. chosen x n c) i ∙ ap (λ n. chosen x y n) j

-- the net's inputs among those of the design
first_input : (enable : Bool) (given : List (List Bool)) (rest : List (List (List Bool))) (port w : ℕ)
    → input_from (data_inputs enable (given ∷ rest)) 0 port w ≡ word_at given (length (enable_inputs enable) + port)
first_input true given rest port w = get_or-drop 1 given port []
first_input false given rest port w = let e : port ≡ 0 + port = omega arith in ap (word_at given) e

later_input : (enable : Bool) (given : List (List Bool)) (rest : List (List (List Bool))) (k port w : ℕ)
    → input_from (data_inputs enable (given ∷ rest)) (suc k) port w ≡ input_from (data_inputs enable rest) k port w
later_input true given rest k port w = refl
later_input false given rest k port w = refl

module _ (called : List ℕ) (enable : Bool) (net : Net) (s : Schedule) (delays : List ℕ) (setup period : ℕ) (valid : IsValid net)
    (fits : Fits net.nodes delays setup period s)
    (inputs : Inputs) where
  abbrev d : Design
  d = without_enable (design_of called enable net s)

  abbrev ps : List Standing
  ps = standings net s

  abbrev first : ℕ
  first = length (enable_inputs enable)

  abbrev flows : ℕ → ℤ → List Bool
  flows i t = flow net.nodes inputs i t

  -- the words of the nodes so many cycles before a cycle
  abbrev words_at : ℕ → Scope
  words_at k = record { names = λ j. flow net.nodes inputs j (ago k 0); ports = λ p. [] }

  equation : (i : ℕ) (n : Node) (t : ℤ) → slice_get net.nodes i ≡ Some n → flow net.nodes inputs i t
      ≡ stream_of inputs (streams_on inputs [] net.nodes) n t
  equation i n t h = flow_equation net.nodes valid.nodes inputs i n t h

  -- a constant has one word at all times
  constant_flow : (j : ℕ) (n : Node) → slice_get net.nodes j ≡ Some n → is_constant_at net.nodes j ≡ true → (t r : ℤ)
      → flow net.nodes inputs j t ≡ flow net.nodes inputs j r
  constant_flow j n h e t r = by n h (sym (ap is_some_constant h) ∙ e)
    where
      by : (n : Node) → slice_get net.nodes j ≡ Some n → is_constant n ≡ true → flow net.nodes inputs j t ≡ flow net.nodes inputs j r
      by (Constant w) h e = equation j (Constant w) t h ∙ sym (equation j (Constant w) r h)
      by (Input port w) h e = absurd (cc)
      by (Cells class w x) h e = absurd (cc)
      by (Choice on one other) h e = absurd (cc)
      by (Table address rows) h e = absurd (cc)
      by (Delay of) h e = absurd (cc)

  -- what the registers hold as cycle u begins
  record Held (u : ℕ) (now : List (List Bool)) : Type 0 where
    copied : (i k : ℕ) → i < length net.nodes → k < copies net s i → word_at now (signal_of net s i (suc k))
        ≡ flow net.nodes inputs i (ago u ((s i).cycle + suc k))
    delayed : (i of : ℕ) → slice_get net.nodes i ≡ Some (Delay of) → word_at now (signal_of net s i 0)
        ≡ flow net.nodes inputs i (ago u (s i).cycle)

  module _ (u : ℕ) (now given next : List (List Bool)) (v : Words)
      (c : Cycle (without_enable (design_of called enable net s)) now given v next) (held : Held u now)
      (taken : (port w : ℕ) → input_from inputs u port w ≡ word_at given (length (enable_inputs enable) + port)) where
    wide : (i k : ℕ) (n : Node) → slice_get net.nodes i ≡ Some n → k ≤ copies net s i → length (word_at v.signals (signal_of net s i k))
        ≡ slice_index (widths net.nodes) i
    wide i k n h l =
        sym (width-at v.signals (signal_of net s i k))
        ∙ ap (λ ws. slice_index ws (signal_of net s i k)) c.signal_widths
        ∙ get_or_from_slice_get (map (λ x. x.width) (all_of (node_signals net (standings net s)) 0 net.nodes)) (signal_of net s i k)
        (slice_index (widths net.nodes) i) 0
        (signal_width net s i k n h l)

    -- all copies of a node have their words
    abbrev Follows : ℕ → Type 0
    Follows j = (k : ℕ) → k ≤ copies net s j → word_at v.signals (signal_of net s j k) ≡ flow net.nodes inputs j (ago u ((s j).cycle + k))

    -- what is read of such a node
    read_word : (at j : ℕ) → j < length net.nodes → Follows j → ReadIn net s at j
        → (word_at v.signals (read_in (standings net s) at j) ≡ flow net.nodes inputs j (ago u at))
        × (length (flow net.nodes inputs j (ago u at)) ≡ (standing_at (standings net s) j).width)
    read_word at j l f r =
        let n = get_or net.nodes j (Delay 0) in
        let h = node_there net s j l in
        let q = copy_of_read net s at j l r in
        let place : word_at v.signals (read_in (standings net s) at j)
        ≡ word_at v.signals (signal_of net s j q.copy) = ap (word_at v.signals) q.is in
        let time : flow net.nodes inputs j (ago u ((s j).cycle + q.copy)) ≡ flow net.nodes inputs j (ago u at) =
        elim (cases_Bool (is_constant_at net.nodes j)) [
          | inl e ↦ constant_flow j n h e (ago u ((s j).cycle + q.copy)) (ago u at)
          | inr e ↦ ap (λ k. flow net.nodes inputs j (ago u k)) (q.distance e)
        ] in
        let all : word_at v.signals (read_in (standings net s) at j) ≡ flow net.nodes inputs j (ago u at) = place ∙ f q.copy q.within
        ∙ time in
        (all, ap length (sym all) ∙ ap length place ∙ wide j q.copy n h q.within ∙ sym (ap (λ o. o.width) (standing-is net s j n h)))

    -- what each operand of a node has in the node's cycle
    abbrev HasOperand : ℕ → ℕ → Type 0
    HasOperand i = HasWord (standings net s) (s i).cycle (scope v)
        (record { names = λ j. flow net.nodes inputs j (ago u (s i).cycle); ports = λ p. [] })

    operands : (i : ℕ) (n : Node) → slice_get net.nodes i ≡ Some n → ((j : ℕ) → j < i → Follows j) → All (HasOperand i) (reads_of n)
    operands i n h ih =
        let l = slice_get_within net.nodes i n h in
        All-weaker (λ j. (j < i) × ReadIn net s (s i).cycle j) (HasOperand i)
        (λ j q. read_word (s i).cycle j (omega (arith, l, q.0)) (ih j q.0) q.1) (reads_of n)
        (reads_in net s delays setup period valid fits i n h)

    -- an input port has the word given
    port_word : (i port w : ℕ) → slice_get net.nodes i ≡ Some (Input port w) → word_at v.ports (length (enable_inputs enable) + port)
        ≡ input_from inputs u port w
    port_word i port w h =
        let ins = enable_inputs enable ++ net.inputs in
        let place = length (enable_inputs enable) + port in
        let there : place < length ins =
        omega (
          arith,
          slice_get_within (valid_net.input_widths net) port w (input-width net valid i port w h),
          length-map net.inputs (λ i. i.1),
          length-ins enable net,
        ) in
        sym (get-inputs net.outputs ins v.ports place [] there) ∙ ap (λ ws. word_at ws place) c.inputs ∙ sym (taken port w)

    meets : (k : Driver) → Contains (drivers_of enable net s) k → Meets None now v next k
    meets k h = All-contains (Meets None now v next) (drivers_of enable net s) k c.equations h

    -- a node whose operands have their words has its own
    at_node : (i : ℕ) (n : Node) → slice_get net.nodes i ≡ Some n → ((j : ℕ) → j < i → Follows j)
        → Meets None now v next (own_driver (length (enable_inputs enable)) (standings net s) (standing_of net s i n) n)
        → word_at v.signals (signals_before (copies net s) i) ≡ flow net.nodes inputs i (ago u (s i).cycle)
    at_node i (Input port w) h ih m =
        let start : (s i).cycle ≡ 0 = (fits.nodes_fit i (Input port w) h).0 in
        m ∙ port_word i port w h ∙ sym (ap (λ k. flow net.nodes inputs i (ago u k)) start ∙ equation i (Input port w) (pos u) h)
    at_node i (Constant w) h ih m = m ∙ sym (equation i (Constant w) (ago u (s i).cycle) h)
    at_node i (Cells class w e) h ih m =
        let r : Scope = record { names = λ j. flow net.nodes inputs j (ago u (s i).cycle); ports = λ p. [] } in
        m
        ∙ tree-value (standings net s) (s i).cycle (scope v) r e
        (cells-read (widths net.nodes) (HasOperand i) class w e (may_stand net.nodes valid.nodes i (Cells class w e) h)
        (operands i (Cells class w e) h ih))
        ∙ sym (equation i (Cells class w e) (ago u (s i).cycle) h)
    at_node i (Choice on one other) h ih m =
        let r : Scope = record { names = λ j. flow net.nodes inputs j (ago u (s i).cycle); ports = λ p. [] } in
        let a = operands i (Choice on one other) h ih in
        let b = All-tail (HasOperand i) on (one.node ∷ other.node ∷ []) a in
        let x = All-head (HasOperand i) on (one.node ∷ other.node ∷ []) a in
        let y = All-head (HasOperand i) one.node (other.node ∷ []) b in
        let z = All-head (HasOperand i) other.node [] (All-tail (HasOperand i) one.node (other.node ∷ []) b) in
        m
        ∙ chosen_same _ _ _ _ _ _ x.0 (part-value (standings net s) (s i).cycle (scope v) r one.node one.high one.low y)
        (part-value (standings net s) (s i).cycle (scope v) r other.node other.high other.low z)
        ∙ sym (equation i (Choice on one other) (ago u (s i).cycle) h)
    at_node i (Table address rows) h ih m =
        let x = All-head (HasOperand i) address [] (operands i (Table address rows) h ih) in
        let stands = may_stand net.nodes valid.nodes i (Table address rows) h in
        let there : address < length net.nodes = omega
        (arith, index_within (widths net.nodes) address 0 (omega (arith, stands.address_width.0)), length-widths net.nodes) in
        let w : (standing_at (standings net s) address).width ≡ slice_index (widths net.nodes) address =
        ap (λ o. o.width) (standing-is net s address (get_or net.nodes address (Delay 0)) (node_there net s address there)) in
        table_word (standing_at (standings net s) address).width rows (word_at v.signals (read_in (standings net s) (s i).cycle address))
        (word_at v.signals (signals_before (copies net s) i))
        (stands.row_for_each ∙ ap (λ n. 2 ^ n) (sym w)) (ap length x.0 ∙ x.1) m
        ∙ ap (λ k. word_at rows (nat k)) x.0
        ∙ sym (equation i (Table address rows) (ago u (s i).cycle) h)
    at_node i (Delay of) h ih m =
        let e : signals_before (copies net s) i ≡ signal_of net s i 0 = omega arith in
        m.0 ∙ ap (word_at now) e ∙ held.delayed i of h

    below : (b i : ℕ) → i < b → i < length net.nodes → Follows i
    below zero i l m k q = absurd (omega (arith, l))
    below (suc b) i l m zero q =
        let n = get_or net.nodes i (Delay 0) in
        let h = node_there net s i m in
        let ih = λ (j : ℕ) (k : j < i). below b j (omega (arith, l, k)) (omega (arith, m, k)) in
        let e : signal_of net s i 0 ≡ signals_before (copies net s) i = omega arith in
        let t : (s i).cycle ≡ (s i).cycle + 0 = omega arith in
        ap (word_at v.signals) e
        ∙ at_node i n h ih (meets (own_driver (length (enable_inputs enable)) (standings net s) (standing_of net s i n) n)
        (has_own_driver net s enable i n h))
        ∙ ap (λ k. flow net.nodes inputs i (ago u k)) t
    below (suc b) i l m (suc k) q =
        let n = get_or net.nodes i (Delay 0) in
        let h = node_there net s i m in
        let e : signal_of net s i (suc k) ≡ signals_before (copies net s) i + 1 + k = omega arith in
        ap (word_at v.signals) e
        ∙ (meets (copy_register (standing_of net s i n) k) (has_copy_register net s enable i k n h (omega (arith, q)))).0
        ∙ ap (word_at now) (sym e)
        ∙ held.copied i k m (omega (arith, q))

    follows : (i k : ℕ) → i < length net.nodes → k ≤ copies net s i → word_at v.signals (signal_of net s i k)
        ≡ flow net.nodes inputs i (ago u ((s i).cycle + k))
    follows i k l q = below (suc i) i (omega arith) l k q

    output_word : (j : ℕ) (o : net_output.Output) → slice_get net.outputs j ≡ Some o
        → word_at v.ports (length (enable_inputs enable) + length net.inputs + j)
        ≡ slice_flow net.nodes inputs o.from (ago u (net_latency net s))
    output_word j o h =
        let l = net_latency net s in
        let g = output_reads_in net s delays setup period valid fits j o h in
        let r : Scope = record { names = λ j. flow net.nodes inputs j (ago u l); ports = λ p. [] } in
        let x = read_word l o.from.node g.0 (λ k q. follows o.from.node k g.0 q) g.1 in
        meets (driver.Output (length (enable_inputs enable) + length net.inputs + j) (slice_in (standings net s) l o.from))
        (has_output_driver net s enable j o h)
        ∙ part-value (standings net s) l (scope v) r o.from.node o.from.high o.from.low x

    output_words : words_at_outputs (design_of called enable net s) v
        ≡ map (λ o. slice_flow net.nodes inputs o.from (ago u (net_latency net s))) net.outputs
    output_words =
        let f : net_output.Output → List Bool = λ o. slice_flow net.nodes inputs o.from (ago u (net_latency net s)) in
        let ins = enable_inputs enable ++ net.inputs in
        let many = length-ins enable net in
        let long : length v.ports ≡ length ins + length net.outputs =
        omega (
          arith,
          length-map v.ports (λ w. length w),
          ap length c.port_widths,
          length-map (ports_of enable net) (λ p. p.width),
          length-ports enable net,
          many,
        ) in
        let count : length (drop (length ins) v.ports) ≡ length net.outputs = omega (arith, length-drop (length ins) v.ports, long) in
        outputs-rest ins net.outputs v.ports long
        ∙ ext_get_or [] (drop (length ins) v.ports) (map f net.outputs) (count ∙ sym (length-map net.outputs f)) (
        λ j l.
        let none : net_output.Output = record { name = []; from = record { node = 0; high = 0; low = 0 } } in
        let o = get_or net.outputs j none in
        let there = slice_get-get_or net.outputs j none (omega (arith, l, count)) in
        get_or-drop (length ins) v.ports j []
        ∙ ap (λ k. word_at v.ports (k + j)) many
        ∙ output_word j o there
        ∙ sym (get_or_from_slice_get (map f net.outputs) j (f o) [] (slice_get-map f net.outputs j ∙ ap (option_map f) there))
        )

    constant_word : (i : ℕ) (w : List Bool) → slice_get net.nodes i ≡ Some (Constant w) → word_at v.signals (signal_of net s i 0) ≡ w
    constant_word i w h = follows i 0 (slice_get_within net.nodes i (Constant w) h) (omega arith)
        ∙ equation i (Constant w) (ago u ((s i).cycle + 0)) h

    at_cycle : FollowsFlow called enable net s inputs u v
    at_cycle = record { nodes = follows; constants = constant_word; outputs = output_words }

    -- the registers hand on
    held_next : Held (suc u) next
    held_next = record {
      copied = λ i k l q.
          let n = get_or net.nodes i (Delay 0) in
          let h = node_there net s i l in
          let e : signal_of net s i (suc k) ≡ signals_before (copies net s) i + 1 + k = omega arith in
          let t : suc ((s i).cycle + k) ≡ (s i).cycle + suc k = omega arith in
          ap (word_at next) e
          ∙ (meets (copy_register (standing_of net s i n) k) (has_copy_register net s enable i k n h q)).1
          ∙ follows i k l (omega (arith, q))
          ∙ ap (flow net.nodes inputs i) (sym (ago-next u ((s i).cycle + k)))
          ∙ ap (λ j. flow net.nodes inputs i (ago (suc u) j)) t;
      delayed = λ i of h.
          let e : signal_of net s i 0 ≡ signals_before (copies net s) i = omega arith in
          let l = slice_get_within net.nodes i (Delay of) h in
          let q = All-head (λ j. (j < i) × ReadIn net s (s i).cycle j) of []
          (reads_in net s delays setup period valid fits i (Delay of) h) in
          let there : of < length net.nodes = omega (arith, l, q.0) in
          let x = read_word (s i).cycle of there (λ k r. follows of k there r) q.1 in
          ap (word_at next) e
          ∙ (meets (own_driver (length (enable_inputs enable)) (standings net s) (standing_of net s i (Delay of)) (Delay of))
          (has_own_driver net s enable i (Delay of) h)).1
          ∙ x.0
          ∙ ap (flow net.nodes inputs of) (sym (ago-next u (s i).cycle))
          ∙ sym (equation i (Delay of) (ago (suc u) (s i).cycle) h);
    }

  -- the initial values are those of all times before cycle 0
  started : Held 0 (initial_words (all_of (node_signals net (standings net s)) 0 net.nodes))
  started =
      let signals = all_of (node_signals net (standings net s)) 0 net.nodes in
      record {
        copied = λ i k l q.
            let n = get_or net.nodes i (Delay 0) in
            let h = node_there net s i l in
            let x = copy_signal (zero_word net i) (standing_of net s i n) i (1 + k) in
            let t : suc ((s i).cycle + k) ≡ (s i).cycle + suc k = omega arith in
            get_or_from_slice_get (initial_words signals) (signal_of net s i (suc k)) (zero_word net i) []
            (get-mapped (λ y. unwrap_or y.initial []) signals (signal_of net s i (suc k)) x (signal-copy net s i n h k q))
            ∙ flow-before net.nodes [] inputs i 0 ((s i).cycle + k)
            ∙ sym (ap (flow net.nodes inputs i) (ago-start ((s i).cycle + k)))
            ∙ ap (λ j. flow net.nodes inputs i (ago 0 j)) t;
        delayed = λ i of h.
            let x = own_signal (zero_word net i) (standing_of net s i (Delay of)) i (Delay of) in
            get_or_from_slice_get (initial_words signals) (signal_of net s i 0) (zero_word net i) []
            (get-mapped (λ y. unwrap_or y.initial []) signals (signal_of net s i 0) x (signal-own net s i (Delay of) h))
            ∙ flow_equation net.nodes valid.nodes [] i (Delay of) (negsuc 0) h
            ∙ flow-before net.nodes [] inputs of 1 (s i).cycle
            ∙ sym (ap (flow net.nodes inputs of) (ago-start (s i).cycle))
            ∙ sym (equation i (Delay of) (ago 0 (s i).cycle) h);
      }

  follows_on : (rest : List (List (List Bool))) (vs : List Words) (now : List (List Bool)) (t : ℕ)
      → ((k port w : ℕ) → input_from inputs (t + k) port w ≡ input_from (data_inputs enable rest) k port w)
      → Held t now → RunsOn (without_enable (design_of called enable net s)) now rest vs
      → (u : ℕ) (v : Words) → slice_get vs u ≡ Some v → FollowsFlow called enable net s inputs (t + u) v
  follows_on [] [] now t same held r u v h = absurd (cc)
  follows_on [] (w ∷ vs) now t same held r u v h = absurd r
  follows_on (given ∷ rest) [] now t same held r u v h = absurd r
  follows_on (given ∷ rest) (w ∷ vs) now t same held r zero v h =
      let is : w ≡ v = cc in
      let e : t ≡ t + 0 = omega arith in
      let taken = λ (port x : ℕ). ap (λ k. input_from inputs k port x) e ∙ same 0 port x ∙ first_input enable given rest port x in
      subst (λ k. FollowsFlow called enable net s inputs k v) e
      (subst (FollowsFlow called enable net s inputs t) is (at_cycle t now given r.0 w r.1 held taken))
  follows_on (given ∷ rest) (w ∷ vs) now t same held r (suc u) v h =
      let e : t ≡ t + 0 = omega arith in
      let f : suc t + u ≡ t + suc u = omega arith in
      let taken = λ (port x : ℕ). ap (λ k. input_from inputs k port x) e ∙ same 0 port x ∙ first_input enable given rest port x in
      let later = λ (k port x : ℕ). let g : suc t + k ≡ t + suc k = omega arith in ap (λ j. input_from inputs j port x) g
      ∙ same (suc k) port x ∙ later_input enable given rest k port x in
      subst (λ k. FollowsFlow called enable net s inputs k v) f
      (follows_on rest vs r.0 (suc t) later (held_next t now given r.0 w r.1 held taken) r.2 u v h)

pub run-follows : (called : List ℕ) (enable : Bool) (net : Net) (s : Schedule) (delays : List ℕ) (setup period : ℕ) → IsValid net
    → Fits net.nodes delays setup period s
    → (inputs : List (List (List Bool))) (vs : List Words) → Run (without_enable (design_of called enable net s)) inputs vs
    → (u : ℕ) (v : Words) → slice_get vs u ≡ Some v → FollowsFlow called enable net s (data_inputs enable inputs) u v
run-follows called enable net s delays setup period valid fits inputs vs r u v h =
    let taken = data_inputs enable inputs in
    let e : 0 + u ≡ u = omega arith in
    subst (λ k. FollowsFlow called enable net s taken k v) e (
    follows_on called enable net s delays setup period valid fits taken inputs vs (initial_words (design_of called enable net s).signals) 0
    (λ k port w. let f : 0 + k ≡ k = omega arith in ap (λ j. input_from taken j port w) f)
    (started called enable net s delays setup period valid fits taken) r u v h
    )
