-- A net's design declares what it names, drives each signal and output once, in order, and reads no output.
use Rattle.std.proofs.Common.{◌≡◌, ℕ, zero, suc, ◌+◌, ◌<◌, ◌≤◌, Bool, true, false, List, [], ◌∷◌, ◌++◌, length, get_or, Some, None, refl, sym, ap, ◌∙◌, subst, arith, inl, inr}
use Rattle.std.specs.Prelude.{not, Option, ◌≢◌, ◌&&◌, ◌^◌, if◌then◌else◌, filter, IfSome, IsSome, All, Contains, slice_get, slice_index}
use Rattle.std.specs.List.{list_any}
use Rattle.std.proofs.lemmas.Bool.{both_ways, not-true, cond_both, cases_order}
use Rattle.std.proofs.lemmas.List.{length-append}
use Rattle.std.proofs.lemmas.List.Elements.{All-nil, All-cons, All-head, All-tail, All-append, All-filter, All-weaker, filter_passes, Contains-get_or}
use Rattle.std.proofs.lemmas.Option.{slice_get-get_or, slice_get_within, get_or_from_slice_get}
use Rattle.opgen_num.specs.Words.{nat, word}
use Rattle.opgen_num.specs.WordLaws.{nat-word}
use Rattle.opgen_net.specs.declared.node.Node.{Node}
use Rattle.opgen_net.specs.declared.node.Node.TheVariants.{Input, Constant, Cells, Choice, Table, Delay}
use Rattle.opgen_net.specs.declared.net.Net.{Net}
use Rattle.opgen_net.specs.declared.net.Output as net_output
use Rattle.opgen_design.specs.declared.design.Design.{Design}
use Rattle.opgen_design.specs.declared.design.Dir.TheVariants.{In, Out}
use Rattle.opgen_design.specs.declared.design.Driver.{Driver}
use Rattle.opgen_design.specs.declared.design.Driver.TheVariants as driver
use Rattle.opgen_design.specs.Sound.{AllReads, Names, target, expressions_read, DriverReads, Needs, IsEnableDeclared, IsDeclared, IsInput, IsDriven, IsOrdered, ReadsInputs, IsRegisterOf, HasInitial, AddressesDiffer, IsFitForEnable, Holds}
use Rattle.opgen_net.specs.Valid.{widths, IsValid}
use Rattle.opgen_net.specs.Made.{addressed, output_port}
use Rattle.opgen_design.specs.Order.{is_register}
use Rattle.opgen_design.specs.declared.design.Target.TheVariants.{Signal as signal, Port as port_of}
use Rattle.opgen_design.specs.declared.sound.Rule.TheVariants.{Undeclared, DrivenTwice, NotDriven, ReadsOutput, NoInitial, ChoiceTwice, BadEnable}
use Rattle.opgen_design.proofs.ReadLaws.{reads-weaker, holds_of_operand}
use Rattle.opgen_net.proofs.InputLaws.{input-width}
use Rattle.opgen_net.proofs.Standing.{may_stand}
use Rattle.opgen_schedule.specs.Reads.{reads_of}
use Rattle.opgen_schedule.specs.Schedule.{Schedule, Fits}
use Rattle.opgen_design.specs.Run.{enable_inputs}
use Rattle.opgen_design.proofs.SoundLaws.{at-contains}
use Rattle.opgen_pipe.specs.declared.standing.Standing.{Standing}
use Rattle.opgen_pipe.specs.Copies.{copies, net_latency, signals_before, signal_of}
use Rattle.opgen_pipe.specs.Standings.{standing_of, standings, standing_at}
use Rattle.opgen_pipe.specs.Reading.{read_in, slice_in}
use Rattle.opgen_pipe.specs.Pipelined.{zero_word, initial_of, all_of, node_signals, own_driver, copy_register, node_drivers, output_drivers, ports_of, drivers_of, design_of}
use Rattle.opgen_pipe.proofs.Lists.{get-map, from_filter}
use Rattle.opgen_pipe.proofs.Blocks.{before-within}
use Rattle.opgen_pipe.proofs.Copied.{standing-is, node_there, ReadIn, copy_of_read, reads_in, output_reads_in}
use Rattle.opgen_pipe.proofs.Parts.{length-signals, by_signal, has_own_driver, has_copy_register, has_output_driver, by_place, by_driver, length-ports, port-in, port-output, by_port}
use Rattle.opgen_pipe.proofs.TableWords.{length-addressed, get-addressed}
use Rattle.opgen_pipe.proofs.Trees.{NoPorts, part-reads, tree-reads}
use Rattle.opgen_pipe.proofs.Follows.{cells-read}
use Rattle.opgen_pipe.proofs.SoundParts.{holds}

-- what a driver reads and needs

needs_read : (P Q : ℕ → Type 0) (r : ℕ) (k : Driver) → DriverReads P Q k → Needs r k → P r
needs_read P Q r (driver.Register to e) h n = absurd n
needs_read P Q r k h n = holds_of_operand P Q r (expressions_read k) h n

pub target-own : (first : ℕ) (ps : List Standing) (o : Standing) (n : Node) → target (own_driver first ps o n) ≡ signal o.signal
target-own first ps o (Input place w) = refl
target-own first ps o (Constant w) = refl
target-own first ps o (Cells class w e) = refl
target-own first ps o (Choice on one other) = refl
target-own first ps o (Table address rows) = refl
target-own first ps o (Delay of) = refl

-- no two drivers drive the same
abbrev Distinct : List Driver → Type 0
Distinct [] = Unit {0}
Distinct (k ∷ ks) = All (λ m. target k ≢ target m) ks × Distinct ks

distinct-filter : (p : Driver → Bool) (ks : List Driver) → Distinct ks → Distinct (filter p ks)
distinct-filter p [] h = tt
distinct-filter p (k ∷ ks) h =
    cond_both (p k) (k ∷ filter p ks) (filter p ks) Distinct
    (λ _. (All-filter p (λ m. target k ≢ target m) ks h.0, distinct-filter p ks h.1)) (λ _. distinct-filter p ks h.1)

distinct-append : (ks ms : List Driver) → Distinct ks → Distinct ms → All (λ k. All (λ m. target k ≢ target m) ms) ks → Distinct (ks ++ ms)
distinct-append [] ms a b c = b
distinct-append (k ∷ ks) ms a b c = (
  All-append (λ m. target k ≢ target m) ks ms a.0 (All-head (λ k. All (λ m. target k ≢ target m) ms) k ks c),
  distinct-append ks ms a.1 b (All-tail (λ k. All (λ m. target k ≢ target m) ms) k ks c),
)

distinct_places : (ks : List Driver) → Distinct ks → (j i : ℕ) (m k : Driver) → j < i → slice_get ks j ≡ Some m → slice_get ks i ≡ Some k
    → target m ≢ target k
distinct_places [] h j i m k l a b = absurd (cc)
distinct_places (x ∷ ks) h j zero m k l a b = absurd (omega (arith, l))
distinct_places (x ∷ ks) h zero (suc i) m k l a b =
    let is : x ≡ m = cc in
    let there = h.0 i k (slice_get_within ks i k b) in
    let same : get_or ks i k ≡ k = get_or_from_slice_get ks i k k b in
    λ e. there (ap target is ∙ e ∙ ap target (sym same))
distinct_places (x ∷ ks) h (suc j) (suc i) m k l a b = distinct_places ks h.1 j i m k (omega (arith, l)) a b

-- drivers of the signals in their order are distinct
abbrev InPlace : ℕ → List Driver → Type 0
InPlace a ks = (m : ℕ) (x : Driver) → slice_get ks m ≡ Some x → target x ≡ signal (a + m)

in_place-distinct : (a : ℕ) (ks : List Driver) → InPlace a ks → Distinct ks
in_place-distinct a [] h = tt
in_place-distinct a (k ∷ ks) h = (
  λ i d l e.
      let here : target k ≡ signal (a + 0) = h 0 k refl in
      let there : target (get_or ks i d) ≡ signal (a + suc i) = h (suc i) (get_or ks i d) (slice_get-get_or ks i d l) in
      let both : signal (a + 0) ≡ signal (a + suc i) = sym here ∙ e ∙ there in
      let same : a + 0 ≡ a + suc i = cc in
      omega (arith, same),
  in_place-distinct (a + 1) ks (λ m x g. let e : a + suc m ≡ a + 1 + m = omega arith in h (suc m) x g ∙ ap signal e),
)

later_outputs : (ps : List Standing) (l p a : ℕ) (os : List net_output.Output) → p < a
    → All (λ m. port_of p ≢ target m) (output_drivers ps l a os)
later_outputs ps l p a [] h = All-nil (λ m. port_of p ≢ target m)
later_outputs ps l p a (o ∷ os) h =
    All-cons (λ m. port_of p ≢ target m) (driver.Output a (slice_in ps l o.from)) (output_drivers ps l (a + 1) os)
    (λ e. let is : p ≡ a = cc in omega (arith, is, h)) (later_outputs ps l p (a + 1) os (omega (arith, h)))

distinct_outputs : (ps : List Standing) (l a : ℕ) (os : List net_output.Output) → Distinct (output_drivers ps l a os)
distinct_outputs ps l a [] = tt
distinct_outputs ps l a (o ∷ os) = (later_outputs ps l a (a + 1) os (omega arith), distinct_outputs ps l (a + 1) os)

no_signals : (ps : List Standing) (l i a : ℕ) (os : List net_output.Output) → All (λ m. signal i ≢ target m) (output_drivers ps l a os)
no_signals ps l i a [] = All-nil (λ m. signal i ≢ target m)
no_signals ps l i a (o ∷ os) =
    All-cons (λ m. signal i ≢ target m) (driver.Output a (slice_in ps l o.from)) (output_drivers ps l (a + 1) os) (λ e. absurd (cc))
    (no_signals ps l i (a + 1) os)

module _ (net : Net) (s : Schedule) where
  -- a signal of a node that is there
  signal_there : (i k : ℕ) → i < length net.nodes → k ≤ copies net s i
      → signal_of net s i k < length (all_of (node_signals net (standings net s)) 0 net.nodes)
  signal_there i k l q = omega (arith, before-within (copies net s) i (length net.nodes) l, q, length-signals net s)

  module _ (enable : Bool) where
    abbrev first : ℕ
    first = length (enable_inputs enable)

    abbrev nodes : List Driver
    nodes = all_of (node_drivers (length (enable_inputs enable)) (standings net s)) 0 net.nodes

    abbrev plain : List Driver
    plain = filter (λ k. not (is_register k)) (all_of (node_drivers (length (enable_inputs enable)) (standings net s)) 0 net.nodes)

    abbrev registers : List Driver
    registers = filter is_register (all_of (node_drivers (length (enable_inputs enable)) (standings net s)) 0 net.nodes)

    abbrev outs : List Driver
    outs = output_drivers (standings net s) (net_latency net s) (length (enable_inputs enable) + length net.inputs) net.outputs

    -- the drivers of nodes and copies stand as their signals do
    in_place : (m : ℕ) (x : Driver) → slice_get (all_of (node_drivers (length (enable_inputs enable)) (standings net s)) 0 net.nodes) m
        ≡ Some x → target x ≡ signal m
    in_place =
        by_place net s enable (λ m x. target x ≡ signal m)
        (
        λ i n h.
        let e : signals_before (copies net s) i ≡ signal_of net s i 0 = omega arith in
        target-own (length (enable_inputs enable)) (standings net s) (standing_of net s i n) n ∙ ap signal e
        )
        (λ i k n h l. let e : signals_before (copies net s) i + 1 + k ≡ signal_of net s i (suc k) = omega arith in ap signal e)

    at_place : (k : Driver) → Contains nodes k → (m : ℕ) × (slice_get nodes m ≡ Some k) × (target k ≡ signal m)
    at_place k c = let h = slice_get-get_or nodes c.0 k c.1 ∙ ap Some c.2 in (c.0, h, in_place c.0 k h)

    -- two drivers of one signal are one
    one_driver : (k m : Driver) → Contains nodes k → Contains nodes m → target k ≡ target m → k ≡ m
    one_driver k m c b e =
        let x = at_place k c in
        let y = at_place m b in
        let t : signal x.0 ≡ signal y.0 = sym x.2 ∙ e ∙ y.2 in
        let place : x.0 ≡ y.0 = cc in
        let both : Some k ≡ Some m = sym x.1 ∙ ap (slice_get nodes) place ∙ y.1 in
        cc

    plain_and_registers : All (λ k. All (λ m. target k ≢ target m) registers) plain
    plain_and_registers i d l j e r =
        λ same.
        let k = get_or plain i d in
        let m = get_or registers j e in
        let in_plain : Contains plain k = Contains-get_or plain i d l in
        let in_registers : Contains registers m = Contains-get_or registers j e r in
        let is : k ≡ m = one_driver k m (from_filter (λ k. not (is_register k)) nodes k in_plain)
        (from_filter is_register nodes m in_registers) same in
        let not_register : not (is_register k) ≡ true = filter_passes (λ k. not (is_register k)) nodes i d l in
        let register : is_register m ≡ true = filter_passes is_register nodes j e r in
        both_ways (is_register k) (not-true (is_register k) not_register) (ap is_register is ∙ register)

    signals_and_outputs : All (λ k. All (λ m. target k ≢ target m) outs) (plain ++ registers)
    signals_and_outputs =
        let P : Driver → Type 0 = λ k. All (λ m. target k ≢ target m) outs in
        let of_nodes : All P nodes =
        λ i d l.
        let o = at_place (get_or nodes i d) (Contains-get_or nodes i d l) in
        subst (λ x. All (λ m. x ≢ target m) outs) (sym o.2)
        (no_signals (standings net s) (net_latency net s) o.0 (length (enable_inputs enable) + length net.inputs) net.outputs) in
        All-append P plain registers (All-filter (λ k. not (is_register k)) P nodes of_nodes) (All-filter is_register P nodes of_nodes)

    distinct : Distinct (drivers_of enable net s)
    distinct =
        let all = in_place-distinct 0 nodes (λ m x h. let e : m ≡ 0 + m = omega arith in in_place m x h ∙ ap signal e) in
        distinct-append (plain ++ registers) outs
        (distinct-append plain registers (distinct-filter (λ k. not (is_register k)) nodes all)
        (distinct-filter is_register nodes all) plain_and_registers)
        (distinct_outputs (standings net s) (net_latency net s) (length (enable_inputs enable) + length net.inputs) net.outputs)
        signals_and_outputs

abbrev second_of : Option (List ℕ × ℕ) → ℕ
second_of None = 0
second_of (Some x) = x.1

module _ (called : List ℕ) (enable : Bool) (net : Net) (s : Schedule) (delays : List ℕ) (setup period : ℕ) (valid : IsValid net)
    (fits : Fits net.nodes delays setup period s) where
  abbrev d : Design
  d = design_of called enable net s

  abbrev ps : List Standing
  ps = standings net s

  -- what the own driver of a node reads, by what holds where the node's operands are read
  pub own_operands : (P Q : ℕ → Type 0) (i : ℕ) (n : Node) → slice_get net.nodes i ≡ Some n
      → All (λ j. P (read_in (standings net s) (s i).cycle j)) (reads_of n)
      → ((p : ℕ) → p < length net.inputs → Q (length (enable_inputs enable) + p))
      → DriverReads P Q (own_driver (length (enable_inputs enable)) (standings net s) (standing_of net s i n) n)
  own_operands P Q i (Input place w) h a g = let x = get-map (λ y. y.1) net.inputs place w (input-width net valid i place w h) in (
    g place (slice_get_within net.inputs place x.0 x.1),
    tt,
  )
  own_operands P Q i (Constant w) h a g = (tt, tt)
  own_operands P Q i (Cells class w e) h a g = (
    tree-reads (standings net s) (s i).cycle P Q e
        (
        reads-weaker (λ j. P (read_in (standings net s) (s i).cycle j)) NoPorts (λ j. P (read_in (standings net s) (s i).cycle j)) Q
        (λ j p. p) (λ p q. absurd q) e
        (cells-read (widths net.nodes) (λ j. P (read_in (standings net s) (s i).cycle j)) class w e
        (may_stand net.nodes valid.nodes i (Cells class w e) h) a)
        ),
    tt,
  )
  own_operands P Q i (Choice on one other) h a g =
      let R : ℕ → Type 0 = λ j. P (read_in (standings net s) (s i).cycle j) in
      let b = All-tail R on (one.node ∷ other.node ∷ []) a in (
        All-head R on (one.node ∷ other.node ∷ []) a,
        (
          part-reads (standings net s) (s i).cycle P Q one.node one.high one.low (All-head R one.node (other.node ∷ []) b),
          (
            part-reads (standings net s) (s i).cycle P Q other.node other.high other.low
                (All-head R other.node [] (All-tail R one.node (other.node ∷ []) b)),
            tt,
          ),
        ),
      )
  own_operands P Q i (Table address rows) h a g = (All-head (λ j. P (read_in (standings net s) (s i).cycle j)) address [] a, tt)
  own_operands P Q i (Delay of) h a g = (All-head (λ j. P (read_in (standings net s) (s i).cycle j)) of [] a, tt)

  -- and by what holds of each copy of the nodes before it
  own_reads : (P Q : ℕ → Type 0) (i : ℕ) (n : Node) → slice_get net.nodes i ≡ Some n
      → ((j k : ℕ) → j < i → k ≤ copies net s j → P (signal_of net s j k))
      → ((p : ℕ) → p < length net.inputs → Q (length (enable_inputs enable) + p))
      → DriverReads P Q (own_driver (length (enable_inputs enable)) (standings net s) (standing_of net s i n) n)
  own_reads P Q i n h f g =
      let l = slice_get_within net.nodes i n h in
      own_operands P Q i n h
      (
      All-weaker (λ j. (j < i) × ReadIn net s (s i).cycle j) (λ j. P (read_in (standings net s) (s i).cycle j))
      (λ j q. let x = copy_of_read net s (s i).cycle j (omega (arith, l, q.0)) q.1 in subst P (sym x.is) (f j x.copy q.0 x.within))
      (reads_of n)
      (reads_in net s delays setup period valid fits i n h)
      ) g

  output_reads : (P Q : ℕ → Type 0) (j : ℕ) (o : net_output.Output) → slice_get net.outputs j ≡ Some o
      → ((j k : ℕ) → j < length net.nodes → k ≤ copies net s j → P (signal_of net s j k))
      → AllReads P Q (slice_in (standings net s) (net_latency net s) o.from)
  output_reads P Q j o h f =
      let g = output_reads_in net s delays setup period valid fits j o h in
      let x = copy_of_read net s (net_latency net s) o.from.node g.0 g.1 in
      part-reads (standings net s) (net_latency net s) P Q o.from.node o.from.high o.from.low
      (subst P (sym x.is) (f o.from.node x.copy g.0 x.within))

  by_item : (P : Driver → Type 0) → ((i : ℕ) (n : Node) → slice_get net.nodes i ≡ Some n → P (own_driver (length (enable_inputs enable))
      (standings net s) (standing_of net s i n) n))
      → ((i k : ℕ) (n : Node) → slice_get net.nodes i ≡ Some n → k < copies net s i → P (copy_register (standing_of net s i n) k))
      → ((j : ℕ) (o : net_output.Output) → slice_get net.outputs j ≡ Some o
      → P (driver.Output (length (enable_inputs enable) + length net.inputs + j) (slice_in (standings net s) (net_latency net s) o.from)))
      → (i : ℕ) (k : Driver) → slice_get (drivers_of enable net s) i ≡ Some k → P k
  by_item P f g q i k h = by_driver net s enable P f g q k (at-contains (drivers_of enable net s) i k h)

  -- rule 1
  enable_declared : IsEnableDeclared (design_of called enable net s)
  enable_declared = by enable (list_any is_register (drivers_of enable net s)) (length-ports enable net)
    where
      by : (e b : Bool) → length (ports_of enable net) ≡ length (enable_inputs e) + length net.inputs + length net.outputs
          → IfSome (if e && b then Some 0 else None) (λ p. p < length (ports_of enable net))
      by true true h = omega (arith, h)
      by true false h = tt
      by false b h = tt

  declared_own : (i : ℕ) (n : Node) → slice_get net.nodes i ≡ Some n
      → IsDeclared (design_of called enable net s) (own_driver (length (enable_inputs enable)) (standings net s) (standing_of net s i n) n)
  declared_own i n h =
      let l = slice_get_within net.nodes i n h in
      let here : signals_before (copies net s) i < length (design_of called enable net s).signals = omega
      (arith, signal_there net s i 0 l (omega arith)) in
      record {
        target = subst (Names (design_of called enable net s))
            (sym (target-own (length (enable_inputs enable)) (standings net s) (standing_of net s i n) n)) here;
        reads = own_reads (λ r. r < length (design_of called enable net s).signals)
            (λ p. p < length (design_of called enable net s).ports) i n h
            (λ j k m q. signal_there net s j k (omega (arith, l, m)) q) (λ p m. omega (arith, m, length-ports enable net));
      }

  declared_copy : (i k : ℕ) (n : Node) → slice_get net.nodes i ≡ Some n → k < copies net s i
      → IsDeclared (design_of called enable net s) (copy_register (standing_of net s i n) k)
  declared_copy i k n h q =
      let l = slice_get_within net.nodes i n h in
      record {
        target = omega (arith, signal_there net s i (suc k) l (omega (arith, q)));
        reads = (signal_there net s i k l (omega (arith, q)), tt);
      }

  declared_output : (j : ℕ) (o : net_output.Output) → slice_get net.outputs j ≡ Some o
      → IsDeclared (design_of called enable net s)
      (driver.Output (length (enable_inputs enable) + length net.inputs + j) (slice_in (standings net s) (net_latency net s) o.from))
  declared_output j o h = record {
    target = omega (arith, slice_get_within net.outputs j o h, length-ports enable net);
    reads = (
      output_reads (λ r. r < length (design_of called enable net s).signals)
          (λ p. p < length (design_of called enable net s).ports) j o h (λ j k m q. signal_there net s j k m q),
      tt,
    );
  }

  pub all_declared : Holds (design_of called enable net s) Undeclared
  all_declared =
      holds (design_of called enable net s) Undeclared enable_declared (λ i p h. tt) (λ i x h. tt)
      (by_item (IsDeclared (design_of called enable net s)) declared_own declared_copy declared_output)

  -- rule 4
  no_input : (k : Driver) → Contains (drivers_of enable net s) k → IsInput (design_of called enable net s) (target k) → ⊥
  no_input =
      by_driver net s enable (λ k. IsInput (design_of called enable net s) (target k) → ⊥)
      (λ i n h e. subst (IsInput (design_of called enable net s))
      (target-own (length (enable_inputs enable)) (standings net s) (standing_of net s i n) n) e)
      (λ i k n h l e. e)
      (
      λ j o h e.
      let at : Some (output_port o) ≡ Some e.0 = sym (port-output enable net j o h) ∙ e.1 in
      let is : output_port o ≡ e.0 = cc in
      let dir : Out ≡ In = ap (λ p. p.dir) is ∙ e.2 in
      cc
      )

  pub driven_once : Holds (design_of called enable net s) DrivenTwice
  driven_once =
      holds (design_of called enable net s) DrivenTwice tt (λ i p h. tt) (λ i x h. tt) (
      λ i k h. record {
        not_before = λ j m l g. distinct_places (drivers_of enable net s) (distinct net s enable) j i m k l g h;
        no_input = no_input k (at-contains (drivers_of enable net s) i k h);
      }
      )

  -- rule 5
  pub all_driven : Holds (design_of called enable net s) NotDriven
  all_driven =
      holds (design_of called enable net s) NotDriven tt
      (
      by_port enable net (λ i p. p.dir ≡ Out → IsDriven (design_of called enable net s) (port_of i)) (λ i x h e. absurd (cc))
      (λ j o h e. (driver.Output _ (slice_in (standings net s) (net_latency net s) o.from), has_output_driver net s enable j o h, refl))
      )
      (
      by_signal net s (λ i x. IsDriven (design_of called enable net s) (signal i))
      (
      λ i n h.
      let e : signals_before (copies net s) i ≡ signal_of net s i 0 = omega arith in (
        own_driver (length (enable_inputs enable)) (standings net s) (standing_of net s i n) n,
        has_own_driver net s enable i n h,
        target-own (length (enable_inputs enable)) (standings net s) (standing_of net s i n) n ∙ ap signal e,
      )
      )
      (
      λ i k n h l.
      let e : signals_before (copies net s) i + 1 + k ≡ signal_of net s i (suc k) = omega arith in
      (copy_register (standing_of net s i n) k, has_copy_register net s enable i k n h l, ap signal e)
      )
      )
      (λ i k h. tt)

  -- rule 6
  pub in_order : IsOrdered (design_of called enable net s)
  in_order = (
    λ x. x,
    λ x r k c t n.
        (
        by_driver net s enable (λ k. (x r : ℕ) → target k ≡ signal x → Needs r k → r < x)
        (
        λ i m h x r t n.
        let e : signal (signals_before (copies net s) i)
        ≡ signal x = sym (target-own (length (enable_inputs enable)) (standings net s) (standing_of net s i m) m) ∙ t in
        let is : signals_before (copies net s) i ≡ x = cc in
        let below : r < signals_before (copies net s) i =
        needs_read (λ r. r < signals_before (copies net s) i) (λ p. Unit {0}) r
        (own_driver (length (enable_inputs enable)) (standings net s) (standing_of net s i m) m)
        (own_reads (λ r. r < signals_before (copies net s) i) (λ p. Unit {0}) i m h
        (λ j k l q. omega (arith, before-within (copies net s) j i l, q)) (λ p l. tt)) n in
        omega (arith, below, is)
        )
        (λ i k m h l x r t n. absurd n)
        (λ j o h x r t n. absurd (cc)) k c
        ) x r t n,
  )

  -- rule 7
  input_at : (p : ℕ) → p < length net.inputs → IfSome (slice_get (design_of called enable net s).ports (length (enable_inputs enable) + p))
      (λ q. q.dir ≡ In)
  input_at p l =
      let ins = enable_inputs enable ++ net.inputs in
      let place = length (enable_inputs enable) + p in
      let x = get_or ins place ([], 0) in
      let there : place < length ins = omega (arith, l, length-append (enable_inputs enable) net.inputs) in
      subst (λ o. IfSome o (λ q. q.dir ≡ In)) (sym (port-in enable net place x (slice_get-get_or ins place ([], 0) there))) refl

  pub reads_inputs : Holds (design_of called enable net s) ReadsOutput
  reads_inputs =
      let Q : ℕ → Type 0 = λ p. IfSome (slice_get (design_of called enable net s).ports p) (λ q. q.dir ≡ In) in
      holds (design_of called enable net s) ReadsOutput tt (λ i p h. tt) (λ i x h. tt) (
      by_item (ReadsInputs (design_of called enable net s))
      (λ i n h. own_reads (λ r. Unit {0}) Q i n h (λ j k l q. tt) input_at)
      (λ i k n h l. (tt, tt))
      (λ j o h. (output_reads (λ r. Unit {0}) Q j o h (λ j k l q. tt), tt))
      )

  -- rule 8
  one_signal : (i j : ℕ) → signals_before (copies net s) i ≡ signals_before (copies net s) j → i ≡ j
  one_signal i j e =
      elim (cases_order i j) [
        | inl a ↦ a
        | inr o ↦ elim o [
          | inl a ↦ absurd (omega (arith, e, before-within (copies net s) i j a))
          | inr a ↦ absurd (omega (arith, e, before-within (copies net s) j i a))
        ]
      ]

  register_initial : (i : ℕ) (n : Node) → slice_get net.nodes i ≡ Some n → (j : ℕ) (m : Node) → slice_get net.nodes j ≡ Some m
      → IsRegisterOf (signal_of net s i 0) (own_driver (length (enable_inputs enable)) (standings net s) (standing_of net s j m) m)
      → IsSome (initial_of (zero_word net i) n)
  register_initial i n h j (Input place w) g r = absurd r
  register_initial i n h j (Constant w) g r = absurd r
  register_initial i n h j (Cells class w e) g r = absurd r
  register_initial i n h j (Choice on one other) g r = absurd r
  register_initial i n h j (Table address rows) g r = absurd r
  register_initial i n h j (Delay of) g r =
      let same : j ≡ i = one_signal j i (omega (arith, r)) in
      let both : Some (Delay of) ≡ Some n = sym g ∙ ap (slice_get net.nodes) same ∙ h in
      let is : Delay of ≡ n = cc in
      subst (λ m. IsSome (initial_of (zero_word net i) m)) is refl

  no_copy : (i j k : ℕ) → k < copies net s j → signals_before (copies net s) j + 1 + k ≡ signals_before (copies net s) i + 0 → ⊥
  no_copy i j k l e =
      elim (cases_order i j) [
        | inl a ↦ omega (arith, e, ap (signals_before (copies net s)) a)
        | inr o ↦ elim o [
          | inl a ↦ omega (arith, e, before-within (copies net s) i j a)
          | inr a ↦ omega (arith, e, l, before-within (copies net s) j i a)
        ]
      ]

  pub have_initials : Holds (design_of called enable net s) NoInitial
  have_initials =
      holds (design_of called enable net s) NoInitial tt (λ i p h. tt)
      (
      by_signal net s (HasInitial (design_of called enable net s))
      (
      λ i n h k c.
      by_driver net s enable (λ k. IsRegisterOf (signal_of net s i 0) k → IsSome (initial_of (zero_word net i) n))
      (λ j m g. register_initial i n h j m g)
      (λ j m o g l r. absurd (no_copy i j m l r)) (λ j o g r. absurd r) k c
      )
      (λ i k n h l m c r. refl)
      )
      (λ i k h. tt)

  -- rule 9
  addresses_differ : (i : ℕ) (n : Node) → slice_get net.nodes i ≡ Some n
      → AddressesDiffer (own_driver (length (enable_inputs enable)) (standings net s) (standing_of net s i n) n)
  addresses_differ i (Input place w) h = tt
  addresses_differ i (Constant w) h = tt
  addresses_differ i (Cells class w e) h = tt
  addresses_differ i (Choice on one other) h = tt
  addresses_differ i (Table address rows) h =
      λ a b r q l f g same.
      let w = (standing_at (standings net s) address).width in
      let stands = may_stand net.nodes valid.nodes i (Table address rows) h in
      let x = All-head (λ j. (j < i) × ReadIn net s (s i).cycle j) address []
      (reads_in net s delays setup period valid fits i (Table address rows) h) in
      let there : address < length net.nodes = omega (arith, x.0, slice_get_within net.nodes i (Table address rows) h) in
      let e : w ≡ slice_index (widths net.nodes) address = ap (λ o. o.width)
      (standing-is net s address (get_or net.nodes address (Delay 0)) (node_there net s address there)) in
      let long : length rows ≡ 2 ^ w = stands.row_for_each ∙ ap (λ n. 2 ^ n) (sym e) in
      let pairs = addressed w 0 rows in
      let first : a + 1 < length rows = omega (arith, slice_get_within pairs a r f, length-addressed w 0 rows) in
      let second : b + 1 < length rows = omega (arith, slice_get_within pairs b q g, length-addressed w 0 rows) in
      let x : r.0 ≡ word w a = ap (λ p. p.0) (sym (get_or_from_slice_get pairs a r r f) ∙ get-addressed w rows a r first) in
      let y : q.0 ≡ word w b = ap (λ p. p.0) (sym (get_or_from_slice_get pairs b q q g) ∙ get-addressed w rows b q second) in
      let equal : a ≡ b =
      sym (nat-word w a (omega (arith, first, long))) ∙ ap nat (sym x ∙ same ∙ y) ∙ nat-word w b (omega (arith, second, long)) in
      omega (arith, equal, l)
  addresses_differ i (Delay of) h = tt

  pub all_addresses_differ : Holds (design_of called enable net s) ChoiceTwice
  all_addresses_differ =
      holds (design_of called enable net s) ChoiceTwice tt (λ i p h. tt) (λ i x h. tt)
      (by_item AddressesDiffer addresses_differ (λ i k n h l. tt) (λ j o h. tt))

  -- rule 10
  fit_input : (e b : Bool) (i : ℕ) (x : List ℕ × ℕ) → slice_get (enable_inputs e ++ net.inputs) i ≡ Some x
      → (if e && b then Some 0 else None) ≡ Some i → (In ≡ In) × (x.1 ≡ 1)
  fit_input true true zero x h f = (refl, ap second_of (sym h))
  fit_input true true (suc i) x h f = absurd (let is : 0 ≡ suc i = cc in omega (arith, is))
  fit_input true false i x h f = absurd (cc)
  fit_input false b i x h f = absurd (cc)

  no_output : (e b : Bool) (j : ℕ) → (if e && b then Some 0 else None) ≡ Some (length (enable_inputs e) + length net.inputs + j) → ⊥
  no_output true true j f = let is : 0 ≡ length (enable_inputs true) + length net.inputs + j = cc in omega (arith, is)
  no_output true false j f = absurd (cc)
  no_output false b j f = absurd (cc)

  pub enable_fits : Holds (design_of called enable net s) BadEnable
  enable_fits =
      holds (design_of called enable net s) BadEnable tt
      (
      by_port enable net (IsFitForEnable (design_of called enable net s))
      (λ i x h f. fit_input enable (list_any is_register (drivers_of enable net s)) i x h f)
      (λ j o h f. absurd (no_output enable (list_any is_register (drivers_of enable net s)) j f))
      )
      (λ i x h. tt) (λ i k h. tt)
