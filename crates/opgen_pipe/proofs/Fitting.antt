-- What the parts of a design ask of standings, slots and ports.
use Rattle.std.proofs.Common.{◌≡◌, ℕ, ◌<◌, ◌≤◌, ◌^◌, Bool, true, false, List, [], ◌∷◌, length, map, get_or, Some, sym, ap, ◌∙◌, subst, arith, inl, inr}
use Rattle.std.specs.Prelude.{max, if◌then◌else◌, All, Option, ◌+◌, ◌++◌, filter, not, slice_get, slice_index}
use Rattle.std.proofs.Math.Path.{fun_ext}
use Rattle.std.proofs.lemmas.Bool.{cases_lt}
use Rattle.std.proofs.lemmas.List.{length-map, ext_get_or, get_or_past}
use Rattle.std.proofs.lemmas.List.Elements.{All-same, All-weaker}
use Rattle.std.proofs.lemmas.Option.{slice_get-get_or, slice_get_within, get_or_from_slice_get}
use Rattle.opgen_design.specs.declared.design.Design.{Design}
use Rattle.opgen_design.specs.declared.design.Driver.{Driver}
use Rattle.opgen_design.specs.declared.design.Port.{Port}
use Rattle.opgen_design.specs.declared.design.Signal.{Signal}
use Rattle.opgen_design.specs.Order.{is_register}
use Rattle.opgen_net.specs.declared.net.Net.{Net}
use Rattle.opgen_net.specs.declared.net.Output.{Output}
use Rattle.opgen_net.specs.declared.node.Node.{Node}
use Rattle.opgen_net.specs.declared.node.Node.TheVariants.{Input, Delay}
use Rattle.opgen_net.specs.Valid.{widths, LiesWithin, MayStand, IsValid, input_widths}
use Rattle.opgen_net.proofs.FlowLaws.{length-widths, lies_within}
use Rattle.opgen_net.proofs.InputLaws.{input-width}
use Rattle.opgen_net.proofs.Standing.{all_stand}
use Rattle.opgen_schedule.specs.declared.slot.Slot.{Slot}
use Rattle.opgen_schedule.specs.Reads.{is_constant_at}
use Rattle.opgen_schedule.specs.Schedule.{Schedule, latency}
use Rattle.opgen_schedule.specs.Stage.{start, slot_at}
use Rattle.opgen_design.specs.Run.{enable_inputs}
use Rattle.opgen_pipe.specs.declared.layout.Layout.{Layout}
use Rattle.opgen_pipe.specs.declared.standing.Standing.{Standing}
use Rattle.opgen_pipe.specs.Copies.{copies, net_latency, signal_count, signals_before}
use Rattle.opgen_pipe.specs.Counts.{IsSmall, AreSmall, AreCopies, AreSlots}
use Rattle.opgen_pipe.specs.Layouts.{IsLayout, schedule_of}
use Rattle.opgen_pipe.specs.Pipelined.{all_of, design_of, drivers_of, enable_of, node_drivers, node_signals, output_drivers, ports_of}
use Rattle.opgen_pipe.specs.Standings.{standing_of, standings, nowhere, standing_at}
use Rattle.opgen_pipe.proofs.Lists.{length-each, get-each, get-mapped}
use Rattle.opgen_pipe.proofs.Blocks.{before-most, before-same, before-within}
use Rattle.opgen_pipe.proofs.Copied.{node_there, standing-is}

pub length-standings : (net : Net) (s : Schedule) → length (standings net s) ≡ length net.nodes
length-standings net s = length-each (standing_of net s) 0 net.nodes

pub early_at : (m : ℕ) (slots : List Slot) → All (λ p. p.cycle ≤ m) slots → (i : ℕ) → (slot_at slots i).cycle ≤ m
early_at m slots h i =
    elim (cases_lt i (length slots)) [
      | inl l ↦ h i start l
      | inr l ↦ omega (arith, ap (λ p. p.cycle) (get_or_past slots i start l))
    ]

standings-small : (net : Net) (s : Schedule) → ((i : ℕ) → (s i).cycle ≤ 2 ^ 32) → signal_count net s ≤ 2 ^ 32 → AreSmall (standings net s)
standings-small net s early few k d l =
    let there : k < length net.nodes = omega (arith, l, length-standings net s) in
    let n = get_or net.nodes k (Delay 0) in
    let o = standing_of net s k n in
    let is : get_or (standings net s) k d ≡ o =
    get_or_from_slice_get (standings net s) k o d
    (get-each (standing_of net s) net.nodes k n (slice_get-get_or net.nodes k (Delay 0) there)) in
    subst IsSmall (sym is) (
      early k,
      omega (
        arith,
        before-within (copies net s) k (length net.nodes) there,
        few,
      ),
    )

pub standings-widths : (net : Net) (s : Schedule) → map (λ p. p.width) (standings net s) ≡ widths net.nodes
standings-widths net s =
    let ps = standings net s in
    let long : length (map (λ p. p.width) ps) ≡ length net.nodes = length-map ps (λ p. p.width) ∙ length-standings net s in
    ext_get_or 0 (map (λ p. p.width) ps) (widths net.nodes) (long ∙ sym (length-widths net.nodes)) (
    λ i l.
    let there : i < length net.nodes = omega (arith, l, long) in
    let n = get_or net.nodes i (Delay 0) in
    get_or_from_slice_get (map (λ p. p.width) ps) i (slice_index (widths net.nodes) i) 0
    (get-mapped (λ p. p.width) ps i (standing_of net s i n)
    (get-each (standing_of net s) net.nodes i n (slice_get-get_or net.nodes i (Delay 0) there)))
    )

pub nodes-stand : (net : Net) (s : Schedule) → IsValid net → (ps : List Standing) → ps ≡ standings net s
    → All (MayStand (map (λ p. p.width) ps)) net.nodes
nodes-stand net s valid ps e =
    subst (λ ws. All (MayStand ws) net.nodes) (sym (ap (map (λ p. p.width)) e ∙ standings-widths net s)) (all_stand net.nodes valid.nodes)

latency-early : (m : ℕ) (nodes : List Node) (s : Schedule) → ((i : ℕ) → (s i).cycle ≤ m) → (os : List Output) → latency nodes s os ≤ m
latency-early m nodes s early [] = omega arith
latency-early m nodes s early (o ∷ os) = by (is_constant_at nodes o.from.node) (latency-early m nodes s early os)
  where
    by : (b : Bool) → latency nodes s os ≤ m → max (if b then 0 else (s o.from.node).cycle) (latency nodes s os) ≤ m
    by true l = omega (arith, l)
    by false l = omega (arith, l, early o.from.node)

-- the port of an input is there
pub input-there : (net : Net) → IsValid net → (nodes : List Node) → nodes ≡ net.nodes → (k : ℕ) (d : Node) → k < length nodes → (p w : ℕ)
    → get_or nodes k d ≡ Input p w → p < length net.inputs
input-there net valid nodes e k d l p w h =
    let at : slice_get net.nodes k ≡ Some (Input p w) = ap (λ ns. slice_get ns k) (sym e) ∙ slice_get-get_or nodes k d l ∙ ap Some h in
    omega (arith, slice_get_within (input_widths net) p w (input-width net valid k p w at), length-map net.inputs (λ i. i.1))

pub outputs-within : (net : Net) → IsValid net → (count : ℕ) → count ≡ length net.nodes → (os : List Output) → os ≡ net.outputs
    → All (λ o. o.from.node < count) os
outputs-within net valid count e os f =
    All-same (λ o. o.from.node < count) os net.outputs f (
    All-weaker (λ o. LiesWithin (widths net.nodes) o.from) (λ o. o.from.node < count)
    (λ o h. omega (arith, lies_within (widths net.nodes) o.from h, length-widths net.nodes, e)) net.outputs valid.outputs
    )

-- the copies of all nodes, counted
pub count-is : (net : Net) (slots : List Slot) (counts ks : List ℕ) → AreCopies net slots counts → ks ≡ counts
    → signals_before (slice_index ks) (length ks) ≡ signal_count net (slot_at slots)
count-is net slots counts ks are e =
    ap (λ xs. signals_before (slice_index xs) (length xs)) e
    ∙ before-same (slice_index counts) (copies net (slot_at slots)) (length counts) (λ i l. are.each i (omega (arith, l, are.one_each)))
    ∙ ap (signals_before (copies net (slot_at slots))) are.one_each

-- early slots are in cycles of 32 bits, where there are few signals
pub slots-few : (net : Net) (slots : List Slot) → length slots ≡ length net.nodes → All (λ p. p.cycle ≤ length net.nodes) slots
    → signal_count net (slot_at slots) ≤ 2 ^ 32 → AreSlots net slots
slots-few net slots one_each early few =
    let nodes = before-most (copies net (slot_at slots)) (length net.nodes) in
    record {
      one_each = one_each;
      early = All-weaker (λ p. p.cycle ≤ length net.nodes) (λ p. p.cycle ≤ 2 ^ 32) (λ p m. omega (arith, m, nodes, few)) slots early;
    }

-- standings stand in the slots that they are made for
pub made-for : (net : Net) (slots : List Slot) → length slots ≡ length net.nodes → (ps : List Standing) → ps ≡ standings net (slot_at slots)
    → (λ i. (standing_at ps i).slot) ≡ slot_at slots
made-for net slots long ps e = fun_ext (λ i. ap (λ qs. (standing_at qs i).slot) e ∙ at i)
  where
    at : (i : ℕ) → (standing_at (standings net (slot_at slots)) i).slot ≡ slot_at slots i
    at i =
        elim (cases_lt i (length net.nodes)) [
          | inl l ↦ ap (λ o. o.slot) (standing-is net (slot_at slots) i (get_or net.nodes i (Delay 0)) (node_there net (slot_at slots) i l))
          | inr l ↦
              ap (λ o. o.slot) (get_or_past (standings net (slot_at slots)) i nowhere
              (omega (arith, l, length-standings net (slot_at slots))))
              ∙ sym (get_or_past slots i start (omega (arith, l, long)))
        ]

-- a layout of few signals
module _ (net : Net) (l : Layout) (is : IsLayout net l) (most : ℕ) (few : signal_count net (schedule_of l) ≤ most) where
  nodes-few : length net.nodes ≤ most
  nodes-few = omega (arith, few, before-most (copies net (schedule_of l)) (length net.nodes))

  pub layout-small : most ≤ 2 ^ 32 → AreSmall l.standings.items
  layout-small small =
      subst AreSmall (sym is.standings)
      (standings-small net (schedule_of l) (λ i. omega (arith, is.early i, nodes-few, small)) (omega (arith, few, small)))

  pub latency-few : l.latency ≤ most
  latency-few = omega (
    arith,
    is.latency,
    latency-early (length net.nodes) net.nodes (schedule_of l) is.early net.outputs,
    nodes-few,
  )

-- the drivers over the standings, the first input and the latency of a design are its own
pub drivers-are : (enable : Bool) (net : Net) (s : Schedule) (ps : List Standing) (first last : ℕ) → ps ≡ standings net s
    → first ≡ length (enable_inputs enable) → last ≡ net_latency net s
    → (drivers : List Driver) → drivers ≡ filter (λ k. not (is_register k)) (all_of (node_drivers first ps) 0 net.nodes)
    ++ filter is_register (all_of (node_drivers first ps) 0 net.nodes)
    ++ output_drivers ps last (first + length net.inputs) net.outputs
    → drivers ≡ drivers_of enable net s
drivers-are enable net s ps first last p f l drivers is =
    let made : ℕ → ℕ → List Standing → List Driver = λ a b x.
    filter (λ k. not (is_register k)) (all_of (node_drivers a x) 0 net.nodes)
    ++ filter is_register (all_of (node_drivers a x) 0 net.nodes)
    ++ output_drivers x b (a + length net.inputs) net.outputs in
    let xs = standings net s in
    is ∙ ap (made first last) p ∙ ap (λ a. made a last xs) f ∙ ap (λ b. made (length (enable_inputs enable)) b xs) l

-- a design of the parts that are found one after the other
pub parts-design : (called : List ℕ) (enable : Bool) (net : Net) (s : Schedule) (d : Design) → d.name ≡ called → d.ports ≡ ports_of enable net
    → d.signals ≡ all_of (node_signals net (standings net s)) 0 net.nodes → d.drivers ≡ drivers_of enable net s
    → d.enable ≡ enable_of enable d.drivers → d ≡ design_of called enable net s
parts-design called enable net s d n ports signals drivers moves =
    let made : List ℕ → List Port → List Signal → List Driver → Option ℕ → Design = λ x ps ss ks e. record {
      name = x;
      ports = ps;
      signals = ss;
      drivers = ks;
      enable = e;
    } in
    let all = all_of (node_signals net (standings net s)) 0 net.nodes in
    ap (λ x. made x d.ports d.signals d.drivers d.enable) n
    ∙ ap (λ ps. made called ps d.signals d.drivers d.enable) ports
    ∙ ap (λ ss. made called (ports_of enable net) ss d.drivers d.enable) signals
    ∙ ap (λ ks. made called (ports_of enable net) all ks d.enable) drivers
    ∙ ap (made called (ports_of enable net) all (drivers_of enable net s)) (moves ∙ ap (enable_of enable) drivers)
