-- The signals, ports and drivers of a net's design, by place.
use Rattle.std.proofs.Common.{◌≡◌, ℕ, zero, suc, ◌+◌, ◌<◌, ◌≤◌, Bool, List, [], ◌∷◌, ◌++◌, length, length-append, map, get_or, Some, refl, sym, ap, ◌∙◌, subst, arith, inl, inr}
use Rattle.std.specs.Prelude.{not, Contains, filter, slice_get, slice_index}
use Rattle.std.specs.List.{range_with_len}
use Rattle.std.proofs.lemmas.Bool.{cases_Bool}
use Rattle.std.proofs.lemmas.List.{length-map}
use Rattle.std.proofs.lemmas.List.FromFn.{length-map-range_with_len}
use Rattle.std.proofs.lemmas.List.Elements.{Contains-append_left, Contains-append_right, Contains-append_cases}
use Rattle.std.proofs.lemmas.Option.{get_or_from_slice_get, slice_get-get_or, slice_get_within}
use Rattle.opgen_net.specs.declared.net.Net.{Net}
use Rattle.opgen_net.specs.declared.net.Output as net_output
use Rattle.opgen_net.specs.declared.node.Node.{Node}
use Rattle.opgen_net.specs.Valid.{widths}
use Rattle.opgen_net.specs.Made.{input_port, output_port}
use Rattle.opgen_design.specs.declared.design.Driver.{Driver}
use Rattle.opgen_design.specs.declared.design.Driver.TheVariants.{Output}
use Rattle.opgen_design.specs.declared.design.Port.{Port}
use Rattle.opgen_design.specs.declared.design.Signal.{Signal}
use Rattle.opgen_design.specs.Order.{is_register}
use Rattle.opgen_schedule.specs.Schedule.{Schedule}
use Rattle.opgen_design.specs.Run.{enable_inputs}
use Rattle.opgen_design.proofs.SoundLaws.{at-contains}
use Rattle.opgen_pipe.specs.declared.standing.Standing.{Standing}
use Rattle.opgen_pipe.specs.Copies.{copies, net_latency, signal_of, signal_count}
use Rattle.opgen_pipe.specs.Standings.{standing_of, standings, standing_at}
use Rattle.opgen_pipe.specs.Reading.{slice_in}
use Rattle.opgen_pipe.specs.Pipelined.{zero_word, all_of, own_signal, copy_signal, node_signals, own_driver, copy_register, node_drivers, output_drivers, ports_of, drivers_of}
use Rattle.opgen_pipe.proofs.Lists.{get-left, get-right, get-append, get-map, get-mapped, get-range, Contains-filter, from_filter}
use Rattle.opgen_pipe.proofs.Blocks.{block, length-all, origin}
use Rattle.opgen_pipe.proofs.Copied.{standing-is}

pub get-outputs : (ps : List Standing) (l place : ℕ) (os : List net_output.Output) (j : ℕ) (o : net_output.Output) → slice_get os j ≡ Some o
    → slice_get (output_drivers ps l place os) j ≡ Some (Output (place + j) (slice_in ps l o.from))
get-outputs ps l place [] j o h = absurd (cc)
get-outputs ps l place (p ∷ os) zero o h =
    let is : p ≡ o = cc in
    let e : place ≡ place + 0 = omega arith in
    ap (λ x. Some (Output place (slice_in ps l x.from))) is ∙ ap (λ i. Some (Output i (slice_in ps l o.from))) e
get-outputs ps l place (p ∷ os) (suc j) o h =
    let e : place + 1 + j ≡ place + suc j = omega arith in
    get-outputs ps l (place + 1) os j o h ∙ ap (λ i. Some (Output i (slice_in ps l o.from))) e

pub length-output_drivers : (ps : List Standing) (l place : ℕ) (os : List net_output.Output) → length (output_drivers ps l place os)
    ≡ length os
length-output_drivers ps l place [] = refl
length-output_drivers ps l place (o ∷ os) = ap suc (length-output_drivers ps l (place + 1) os)

module _ (net : Net) (s : Schedule) where
  abbrev ps : List Standing
  ps = standings net s

  abbrev count : ℕ → ℕ
  count = copies net s

  abbrev signals : List Signal
  signals = all_of (node_signals net (standings net s)) 0 net.nodes

  -- a list of one item and those of the copies
  long : {X : Type 0} (own : Standing → X) (copy : Standing → ℕ → X) (a i : ℕ) (n : Node) → slice_get net.nodes i ≡ Some n
      → let o = standing_at (standings net s) i in length (own o ∷ map (copy o) (range_with_len a o.copies)) ≡ 1 + copies net s i
  long own copy a i n h =
      let o = standing_at (standings net s) i in
      omega (arith, length-map-range_with_len (copy o) a o.copies, ap (λ x. x.copies) (standing-is net s i n h))

  first_of : {X : Type 0} (own : Standing → X) (copy : Standing → ℕ → X) (a i : ℕ) (n : Node) → slice_get net.nodes i ≡ Some n
      → let o = standing_at (standings net s) i in slice_get (own o ∷ map (copy o) (range_with_len a o.copies)) 0
      ≡ Some (own (standing_of net s i n))
  first_of own copy a i n h = ap (λ o. Some (own o)) (standing-is net s i n h)

  copy_of : {X : Type 0} (own : Standing → X) (copy : Standing → ℕ → X) (a i : ℕ) (n : Node) → slice_get net.nodes i ≡ Some n → (k : ℕ)
      → k < copies net s i
      → let o = standing_at (standings net s) i in slice_get (own o ∷ map (copy o) (range_with_len a o.copies)) (suc k)
      ≡ Some (copy (standing_of net s i n) (a + k))
  copy_of own copy a i n h k l =
      let o = standing_at (standings net s) i in
      let e = standing-is net s i n h in
      get-mapped (copy o) (range_with_len a o.copies) k (a + k) (get-range a o.copies k (omega (arith, l, ap (λ x. x.copies) e)))
      ∙ ap (λ x. Some (copy x (a + k))) e

  signals_long : (i : ℕ) (n : Node) → slice_get net.nodes i ≡ Some n → length (node_signals net (standings net s) i n) ≡ 1 + copies net s i
  signals_long i n h = long (λ o. own_signal (zero_word net i) o i n) (λ o. copy_signal (zero_word net i) o i) 1 i n h

  pub signal-own : (i : ℕ) (n : Node) → slice_get net.nodes i ≡ Some n
      → slice_get (all_of (node_signals net (standings net s)) 0 net.nodes) (signal_of net s i 0)
      ≡ Some (own_signal (zero_word net i) (standing_of net s i n) i n)
  signal-own i n h =
      block (copies net s) (node_signals net (standings net s)) net.nodes signals_long i 0 n h (omega arith)
      ∙ first_of (λ o. own_signal (zero_word net i) o i n) (λ o. copy_signal (zero_word net i) o i) 1 i n h

  pub signal-copy : (i : ℕ) (n : Node) → slice_get net.nodes i ≡ Some n → (k : ℕ) → k < copies net s i
      → slice_get (all_of (node_signals net (standings net s)) 0 net.nodes) (signal_of net s i (suc k))
      ≡ Some (copy_signal (zero_word net i) (standing_of net s i n) i (1 + k))
  signal-copy i n h k l =
      block (copies net s) (node_signals net (standings net s)) net.nodes signals_long i (suc k) n h (omega (arith, l))
      ∙ copy_of (λ o. own_signal (zero_word net i) o i n) (λ o. copy_signal (zero_word net i) o i) 1 i n h k l

  pub length-signals : length (all_of (node_signals net (standings net s)) 0 net.nodes) ≡ signal_count net s
  length-signals = length-all (copies net s) (node_signals net (standings net s)) net.nodes signals_long

  -- where a signal stands
  pub signal_origin : (m : ℕ) → m < length (all_of (node_signals net (standings net s)) 0 net.nodes)
      → (i : ℕ) × (k : ℕ) × (n : Node) × (slice_get net.nodes i ≡ Some n) × (k ≤ copies net s i) × (m ≡ signal_of net s i k)
  signal_origin m l = origin (copies net s) (node_signals net (standings net s)) net.nodes signals_long m l

  -- what holds of each node's own signal and of each copy's holds of each
  pub by_signal : (P : ℕ → Signal → Type 0) → ((i : ℕ) (n : Node) → slice_get net.nodes i ≡ Some n → P (signal_of net s i 0) (own_signal
      (zero_word net i) (standing_of net s i n) i n))
      → ((i k : ℕ) (n : Node) → slice_get net.nodes i ≡ Some n → k < copies net s i
      → P (signal_of net s i (suc k)) (copy_signal (zero_word net i) (standing_of net s i n) i (1 + k)))
      → (m : ℕ) (x : Signal) → slice_get (all_of (node_signals net (standings net s)) 0 net.nodes) m ≡ Some x → P m x
  by_signal P own copy m x h =
      let o = signal_origin m (slice_get_within signals m x h) in
      at o.1 o.0 o.2 o.3 o.4 o.5
    where
      at : (k i : ℕ) (n : Node) → slice_get net.nodes i ≡ Some n → k ≤ copies net s i → m ≡ signal_of net s i k → P m x
      at zero i n g l e =
          let both : Some (own_signal (zero_word net i) (standing_of net s i n) i n) ≡ Some x = sym (signal-own i n g)
          ∙ ap (slice_get signals) (sym e) ∙ h in
          let is : own_signal (zero_word net i) (standing_of net s i n) i n ≡ x = cc in
          subst (P m) is (subst (λ j. P j (own_signal (zero_word net i) (standing_of net s i n) i n)) (sym e) (own i n g))
      at (suc k) i n g l e =
          let both : Some (copy_signal (zero_word net i) (standing_of net s i n) i (1 + k))
          ≡ Some x = sym (signal-copy i n g k (omega (arith, l))) ∙ ap (slice_get signals) (sym e) ∙ h in
          let is : copy_signal (zero_word net i) (standing_of net s i n) i (1 + k) ≡ x = cc in
          subst (P m) is (subst (λ j. P j (copy_signal (zero_word net i) (standing_of net s i n) i (1 + k))) (sym e)
          (copy i k n g (omega (arith, l))))

  pub signal_width : (i k : ℕ) (n : Node) → slice_get net.nodes i ≡ Some n → k ≤ copies net s i
      → slice_get (map (λ x. x.width) (all_of (node_signals net (standings net s)) 0 net.nodes)) (signal_of net s i k)
      ≡ Some (slice_index (widths net.nodes) i)
  signal_width i zero n h l = get-mapped (λ x. x.width) signals (signal_of net s i 0)
      (own_signal (zero_word net i) (standing_of net s i n) i n) (signal-own i n h)
  signal_width i (suc k) n h l =
      get-mapped (λ x. x.width) signals (signal_of net s i (suc k)) (copy_signal (zero_word net i) (standing_of net s i n) i (1 + k))
      (signal-copy i n h k (omega (arith, l)))

  module _ (enable : Bool) where
    abbrev first : ℕ
    first = length (enable_inputs enable)

    abbrev nodes : List Driver
    nodes = all_of (node_drivers (length (enable_inputs enable)) (standings net s)) 0 net.nodes

    abbrev outs : List Driver
    outs = output_drivers (standings net s) (net_latency net s) (length (enable_inputs enable) + length net.inputs) net.outputs

    drivers_long : (i : ℕ) (n : Node) → slice_get net.nodes i ≡ Some n
        → length (node_drivers (length (enable_inputs enable)) (standings net s) i n) ≡ 1 + copies net s i
    drivers_long i n h = long (λ o. own_driver (length (enable_inputs enable)) (standings net s) o n) (λ o. copy_register o) 0 i n h

    pub driver-own : (i : ℕ) (n : Node) → slice_get net.nodes i ≡ Some n
        → slice_get (all_of (node_drivers (length (enable_inputs enable)) (standings net s)) 0 net.nodes) (signal_of net s i 0)
        ≡ Some (own_driver (length (enable_inputs enable)) (standings net s) (standing_of net s i n) n)
    driver-own i n h =
        block (copies net s) (node_drivers (length (enable_inputs enable)) (standings net s)) net.nodes drivers_long i 0 n h (omega arith)
        ∙ first_of (λ o. own_driver (length (enable_inputs enable)) (standings net s) o n) (λ o. copy_register o) 0 i n h

    pub driver-copy : (i : ℕ) (n : Node) → slice_get net.nodes i ≡ Some n → (k : ℕ) → k < copies net s i
        → slice_get (all_of (node_drivers (length (enable_inputs enable)) (standings net s)) 0 net.nodes) (signal_of net s i (suc k))
        ≡ Some (copy_register (standing_of net s i n) (0 + k))
    driver-copy i n h k l =
        block (copies net s) (node_drivers (length (enable_inputs enable)) (standings net s)) net.nodes drivers_long i (suc k) n h
        (omega (arith, l))
        ∙ copy_of (λ o. own_driver (length (enable_inputs enable)) (standings net s) o n) (λ o. copy_register o) 0 i n h k l

    among_nodes : (k : Driver) → Contains nodes k → Contains (drivers_of enable net s) k
    among_nodes k c =
        elim (cases_Bool (is_register k)) [
          | inl t ↦ Contains-append_left (filter (λ k. not (is_register k)) nodes ++ filter is_register nodes) outs k
              (Contains-append_right (filter (λ k. not (is_register k)) nodes) (filter is_register nodes) k
              (Contains-filter is_register nodes k t c))
          | inr f ↦ Contains-append_left (filter (λ k. not (is_register k)) nodes ++ filter is_register nodes) outs k
              (Contains-append_left (filter (λ k. not (is_register k)) nodes) (filter is_register nodes) k
              (Contains-filter (λ k. not (is_register k)) nodes k (ap not f) c))
        ]

    pub has_own_driver : (i : ℕ) (n : Node) → slice_get net.nodes i ≡ Some n
        → Contains (drivers_of enable net s) (own_driver (length (enable_inputs enable)) (standings net s) (standing_of net s i n) n)
    has_own_driver i n h = among_nodes _ (at-contains nodes (signal_of net s i 0) _ (driver-own i n h))

    pub has_copy_register : (i k : ℕ) (n : Node) → slice_get net.nodes i ≡ Some n → k < copies net s i
        → Contains (drivers_of enable net s) (copy_register (standing_of net s i n) k)
    has_copy_register i k n h l =
        let e : 0 + k ≡ k = omega arith in
        subst (λ j. Contains (drivers_of enable net s) (copy_register (standing_of net s i n) j)) e
        (among_nodes _ (at-contains nodes (signal_of net s i (suc k)) _ (driver-copy i n h k l)))

    pub has_output_driver : (j : ℕ) (o : net_output.Output) → slice_get net.outputs j ≡ Some o
        → Contains (drivers_of enable net s) (Output (length (enable_inputs enable) + length net.inputs + j) (slice_in (standings net s)
        (net_latency net s) o.from))
    has_output_driver j o h =
        Contains-append_right (filter (λ k. not (is_register k)) nodes ++ filter is_register nodes) outs _
        (at-contains outs j _ (get-outputs (standings net s) (net_latency net s) (length (enable_inputs enable) + length net.inputs)
        net.outputs j o h))

    module _ (P : ℕ → Driver → Type 0)
        (own : (i : ℕ) (n : Node) → slice_get net.nodes i ≡ Some n
        → P (signal_of net s i 0) (own_driver (length (enable_inputs enable)) (standings net s) (standing_of net s i n) n))
        (copy : (i k : ℕ) (n : Node) → slice_get net.nodes i ≡ Some n → k < copies net s i
        → P (signal_of net s i (suc k)) (copy_register (standing_of net s i n) k)) where
      -- what holds of the drivers of each node holds of each at its place
      pub by_place : (m : ℕ) (x : Driver) → slice_get (all_of (node_drivers (length (enable_inputs enable)) (standings net s)) 0 net.nodes)
          m ≡ Some x → P m x
      by_place m x h =
          let o = origin (copies net s) (node_drivers (length (enable_inputs enable)) (standings net s)) net.nodes drivers_long m
          (slice_get_within nodes m x h) in
          at o.1 o.0 o.2 o.3 o.4 o.5
        where
          at : (k i : ℕ) (n : Node) → slice_get net.nodes i ≡ Some n → k ≤ copies net s i → m ≡ signal_of net s i k → P m x
          at zero i n g l e =
              let d = own_driver (length (enable_inputs enable)) (standings net s) (standing_of net s i n) n in
              let both : Some d ≡ Some x = sym (driver-own i n g) ∙ ap (slice_get nodes) (sym e) ∙ h in
              let is : d ≡ x = cc in
              subst (P m) is (subst (λ j. P j d) (sym e) (own i n g))
          at (suc k) i n g l e =
              let j : 0 + k ≡ k = omega arith in
              let d = copy_register (standing_of net s i n) k in
              let both : Some d ≡ Some x =
              ap (λ q. Some (copy_register (standing_of net s i n) q)) (sym j) ∙ sym (driver-copy i n g k (omega (arith, l)))
              ∙ ap (slice_get nodes) (sym e) ∙ h in
              let is : d ≡ x = cc in
              subst (P m) is (subst (λ q. P q d) (sym e) (copy i k n g (omega (arith, l))))

    -- what holds of the drivers of nodes and copies holds of each of them
    pub of_nodes : (P : Driver → Type 0)
        → ((i : ℕ) (n : Node) → slice_get net.nodes i ≡ Some n
        → P (own_driver (length (enable_inputs enable)) (standings net s) (standing_of net s i n) n))
        → ((i k : ℕ) (n : Node) → slice_get net.nodes i ≡ Some n → k < copies net s i → P (copy_register (standing_of net s i n) k))
        → (k : Driver) → Contains (all_of (node_drivers (length (enable_inputs enable)) (standings net s)) 0 net.nodes) k → P k
    of_nodes P own copy k c = by_place (λ m x. P x) own copy c.0 k (slice_get-get_or nodes c.0 k c.1 ∙ ap Some c.2)

    module _ (P : Driver → Type 0)
        (own : (i : ℕ) (n : Node) → slice_get net.nodes i ≡ Some n
        → P (own_driver (length (enable_inputs enable)) (standings net s) (standing_of net s i n) n))
        (copy : (i k : ℕ) (n : Node) → slice_get net.nodes i ≡ Some n → k < copies net s i → P (copy_register (standing_of net s i n) k))
        (out : (j : ℕ) (o : net_output.Output) → slice_get net.outputs j ≡ Some o
        → P (Output (length (enable_inputs enable) + length net.inputs + j) (slice_in (standings net s) (net_latency net s) o.from))) where
      of_outputs : (k : Driver) → Contains outs k → P k
      of_outputs k c =
          let none : net_output.Output = record { name = []; from = record { node = 0; high = 0; low = 0 } } in
          let first = length (enable_inputs enable) + length net.inputs in
          let there = slice_get-get_or net.outputs c.0 none
          (omega (arith, c.1, length-output_drivers (standings net s) (net_latency net s) first net.outputs)) in
          let o = get_or net.outputs c.0 none in
          let d : Driver = Output (first + c.0) (slice_in (standings net s) (net_latency net s) o.from) in
          let is : d ≡ k =
          sym (get_or_from_slice_get outs c.0 d k (get-outputs (standings net s) (net_latency net s) first net.outputs c.0 o there))
          ∙ c.2 in
          subst P is (out c.0 o there)

      -- what holds of the drivers of nodes, copies and outputs holds of each
      pub by_driver : (k : Driver) → Contains (drivers_of enable net s) k → P k
      by_driver k c =
          elim (Contains-append_cases (filter (λ k. not (is_register k)) nodes ++ filter is_register nodes) outs k c) [
            | inl a ↦ elim (Contains-append_cases (filter (λ k. not (is_register k)) nodes) (filter is_register nodes) k a) [
              | inl b ↦ of_nodes P own copy k (from_filter (λ k. not (is_register k)) nodes k b)
              | inr b ↦ of_nodes P own copy k (from_filter is_register nodes k b)
            ]
            | inr a ↦ of_outputs k a
          ]

-- the ports
module _ (enable : Bool) (net : Net) where
  abbrev ins : List (List ℕ × ℕ)
  ins = enable_inputs enable ++ net.inputs

  pub length-ins : length (enable_inputs enable ++ net.inputs) ≡ length (enable_inputs enable) + length net.inputs
  length-ins = length-append (enable_inputs enable) net.inputs

  pub length-ports : length (ports_of enable net) ≡ length (enable_inputs enable) + length net.inputs + length net.outputs
  length-ports =
      omega (
        arith,
        length-append (map input_port (enable_inputs enable ++ net.inputs)) (map output_port net.outputs),
        length-ins,
        length-map (enable_inputs enable ++ net.inputs) input_port,
        length-map net.outputs output_port,
      )

  pub port-in : (i : ℕ) (x : List ℕ × ℕ) → slice_get (enable_inputs enable ++ net.inputs) i ≡ Some x → slice_get (ports_of enable net) i
      ≡ Some (input_port x)
  port-in i x h =
      let l = slice_get_within (enable_inputs enable ++ net.inputs) i x h in
      get-left (map input_port (enable_inputs enable ++ net.inputs)) (map output_port net.outputs) i
      (omega (arith, l, length-map (enable_inputs enable ++ net.inputs) input_port))
      ∙ get-mapped input_port (enable_inputs enable ++ net.inputs) i x h

  pub port-output : (j : ℕ) (o : net_output.Output) → slice_get net.outputs j ≡ Some o
      → slice_get (ports_of enable net) (length (enable_inputs enable) + length net.inputs + j) ≡ Some (output_port o)
  port-output j o h =
      get-right (map input_port (enable_inputs enable ++ net.inputs)) (map output_port net.outputs)
      (length (enable_inputs enable) + length net.inputs + j) j
      (omega (arith, length-ins, length-map (enable_inputs enable ++ net.inputs) input_port))
      ∙ get-mapped output_port net.outputs j o h

  module _ (P : ℕ → Port → Type 0) (of_input : (i : ℕ) (x : List ℕ × ℕ) → slice_get (enable_inputs enable ++ net.inputs) i ≡ Some x
      → P i (input_port x))
      (of_output : (j : ℕ) (o : net_output.Output) → slice_get net.outputs j ≡ Some o
      → P (length (enable_inputs enable) + length net.inputs + j) (output_port o)) where
    -- what holds of the ports of the inputs and the outputs holds of each
    pub by_port : (i : ℕ) (p : Port) → slice_get (ports_of enable net) i ≡ Some p → P i p
    by_port i p h =
        elim (get-append (map input_port (enable_inputs enable ++ net.inputs)) (map output_port net.outputs) i p h) [
          | inl a ↦ let x = get-map input_port (enable_inputs enable ++ net.inputs) i p a in subst (P i) x.2 (of_input i x.0 x.1)
          | inr b ↦
              let x = get-map output_port net.outputs b.0 p b.2 in
              let place : length (enable_inputs enable) + length net.inputs + b.0 ≡ i =
              omega (arith, b.1, length-ins, length-map (enable_inputs enable ++ net.inputs) input_port) in
              subst (λ k. P k p) place (subst (P (length (enable_inputs enable) + length net.inputs + b.0)) x.2 (of_output b.0 x.0 x.1))
        ]
