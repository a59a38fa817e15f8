-- How far back the outputs of a net's design look: the latency, and the delays that its ways pass.
use Rattle.std.proofs.Common.{◌≡◌, ℕ, suc, ◌+◌, ◌<◌, ◌≤◌, Bool, true, false, List, [], length, get_or, map, Some, refl, sym, ap, ◌∙◌, arith, inl, inr}
use Rattle.std.specs.Prelude.{◌⊎◌, max, if◌then◌else◌, All, slice_get, slice_index}
use Rattle.std.specs.List.{range_with_len}
use Rattle.std.proofs.lemmas.Bool.{cases_Bool}
use Rattle.std.proofs.lemmas.List.FromFn.{length-map-range_with_len}
use Rattle.std.proofs.lemmas.List.Elements.{All-head, All-nil}
use Rattle.std.proofs.lemmas.Option.{slice_get_within, get_or_from_slice_get}
use Rattle.opgen_net.specs.declared.node.Node.{Node}
use Rattle.opgen_net.specs.declared.node.Node.TheVariants.{Input, Constant, Cells, Choice, Table, Delay}
use Rattle.opgen_net.specs.declared.net.Net.{Net}
use Rattle.opgen_net.specs.declared.net.Output as net_output
use Rattle.opgen_net.specs.Delays.{delays, PassesAtMost}
use Rattle.opgen_net.specs.Valid.{IsValid}
use Rattle.opgen_net.proofs.Delays.{at-most}
use Rattle.opgen_design.specs.Depth.{registers_in, CountRegisters, LooksBack}
use Rattle.opgen_design.specs.Run.{enable_inputs, without_enable}
use Rattle.opgen_design.specs.Sound.{AllReads, DriverReads, expressions_read, Reads, target}
use Rattle.opgen_design.specs.declared.design.Driver.{Driver}
use Rattle.opgen_design.specs.declared.design.Driver.TheVariants as driver
use Rattle.opgen_design.specs.declared.design.Target.TheVariants.{Signal as signal, Port as port_of}
use Rattle.opgen_design.proofs.ReadLaws.{holds_of_operand}
use Rattle.opgen_schedule.specs.Reads.{reads_of, is_some_constant, is_constant_at}
use Rattle.opgen_schedule.specs.Schedule.{Schedule, Fits}
use Rattle.opgen_pipe.specs.Copies.{copies, copy_read, copy_read_by, output_nodes, net_latency, signals_before, signal_of}
use Rattle.opgen_pipe.specs.Laws.{DesignLooksBack}
use Rattle.opgen_pipe.specs.Pipelined.{all_of, own_driver, design_of}
use Rattle.opgen_pipe.specs.Reading.{read_in, slice_in}
use Rattle.opgen_pipe.specs.Standings.{standing_of, standings}
use Rattle.opgen_pipe.proofs.Blocks.{block}
use Rattle.opgen_pipe.proofs.Copied.{node_there, ReadIn, copy_of_read, reads_in, output_reads_in}
use Rattle.opgen_pipe.proofs.DelayReads.{own_delay, delays-read}
use Rattle.opgen_pipe.proofs.Lists.{get-mapped, get-range}
use Rattle.opgen_pipe.proofs.Parts.{by_driver}
use Rattle.opgen_pipe.proofs.SoundDrivers.{own_operands, target-own}
use Rattle.opgen_pipe.proofs.Trees.{part-reads}

-- what holds of all that a driver reads holds of each signal that it reads
read-holds : (P Q : ℕ → Type 0) (r : ℕ) (k : Driver) → DriverReads P Q k → Reads r k → P r
read-holds P Q r k h n = holds_of_operand P Q r (expressions_read k) h n

-- a copy reads one signal
only : {A : Type 0} → A ⊎ ⊥ → A
only x = elim x [ inl a ↦ a | inr none ↦ absurd none ]

registers-own : (first : ℕ) (net : Net) (s : Schedule) (i : ℕ) (n : Node)
    → registers_in (own_driver first (standings net s) (standing_of net s i n) n) ≡ own_delay n
registers-own first net s i (Input place w) = refl
registers-own first net s i (Constant w) = refl
registers-own first net s i (Cells class w e) = refl
registers-own first net s i (Choice on one other) = refl
registers-own first net s i (Table address rows) = refl
registers-own first net s i (Delay of) = refl

module _ (called : List ℕ) (enable : Bool) (net : Net) (s : Schedule) (gates : List ℕ) (setup period : ℕ) (valid : IsValid net)
    (fits : Fits net.nodes gates setup period s) where
  -- how many registers and delays stand before a node's own signal: its cycle, and the delays of its ways; a constant waits for none
  abbrev node_rank : ℕ → ℕ
  node_rank i = if is_constant_at net.nodes i then 0 else (s i).cycle + slice_index (delays net.nodes) i

  abbrev ranks_of : ℕ → Node → List ℕ
  ranks_of i n = map (λ k. node_rank i + k) (range_with_len 0 (1 + copies net s i))

  abbrev rank : ℕ → ℕ
  rank m = slice_index (all_of ranks_of 0 net.nodes) m

  rank-is : (i k : ℕ) (n : Node) → slice_get net.nodes i ≡ Some n → k ≤ copies net s i → rank (signal_of net s i k) ≡ node_rank i + k
  rank-is i k n h l =
      let e : 0 + k ≡ k = omega arith in
      let long : (i : ℕ) (n : Node) → slice_get net.nodes i ≡ Some n → length (ranks_of i n) ≡ 1 + copies net s i =
      λ i n h. length-map-range_with_len (λ k. node_rank i + k) 0 (1 + copies net s i) in
      get_or_from_slice_get (all_of ranks_of 0 net.nodes) (signal_of net s i k) (node_rank i + k) 0
      (block (copies net s) ranks_of net.nodes long i k n h l
      ∙ get-mapped (λ k. node_rank i + k) (range_with_len 0 (1 + copies net s i)) k (0 + k) (get-range 0 (1 + copies net s i) k (omega (arith, l)))
      ∙ ap (λ q. Some (node_rank i + q)) e)

  -- where a node is read in a cycle, the rank is that of the cycle, or 0
  abbrev InRank : (cycle j : ℕ) → Type 0
  InRank c j = rank (read_in (standings net s) c j) ≤ c + slice_index (delays net.nodes) j

  in-rank : (c j : ℕ) (n : Node) → slice_get net.nodes j ≡ Some n → ReadIn net s c j → InRank c j
  in-rank c j n h r =
      let x = copy_of_read net s c j (slice_get_within net.nodes j n h) r in
      let at : rank (read_in (standings net s) c j) ≡ node_rank j + x.copy = ap rank x.is ∙ rank-is j x.copy n h x.within in
      elim (cases_Bool (is_constant_at net.nodes j)) [
        | inl t ↦
            let none : copies net s j ≡ 0 =
            ap (λ b. if b then 0 else max (copy_read_by s 0 j net.nodes) (copy_read s (net_latency net s) j (output_nodes net))) t in
            let zero_rank : node_rank j ≡ 0 = ap (λ b. if b then 0 else (s j).cycle + slice_index (delays net.nodes) j) t in
            omega (arith, at, none, zero_rank, x.within)
        | inr f ↦
            let own : node_rank j ≡ (s j).cycle + slice_index (delays net.nodes) j
            = ap (λ b. if b then 0 else (s j).cycle + slice_index (delays net.nodes) j) f in
            omega (arith, at, own, x.distance f)
      ]

  constant-reads : (P : ℕ → Type 0) (i : ℕ) (n : Node) → slice_get net.nodes i ≡ Some n → is_constant_at net.nodes i ≡ true → All P (reads_of n)
  constant-reads P i (Input place w) h t = All-nil P
  constant-reads P i (Constant w) h t = All-nil P
  constant-reads P i (Cells class w e) h t = absurd (let both : true ≡ false = sym t ∙ ap is_some_constant h in cc)
  constant-reads P i (Choice on one other) h t = absurd (let both : true ≡ false = sym t ∙ ap is_some_constant h in cc)
  constant-reads P i (Table address rows) h t = absurd (let both : true ≡ false = sym t ∙ ap is_some_constant h in cc)
  constant-reads P i (Delay of) h t = absurd (let both : true ≡ false = sym t ∙ ap is_some_constant h in cc)

  -- what a node reads has a rank of at most the node's, of a delay one less
  abbrev Below : ℕ → Node → ℕ → Type 0
  Below i n r = rank r + own_delay n ≤ node_rank i

  operands-below : (i : ℕ) (n : Node) → slice_get net.nodes i ≡ Some n
      → All (λ j. Below i n (read_in (standings net s) (s i).cycle j)) (reads_of n)
  operands-below i n h =
      elim (cases_Bool (is_constant_at net.nodes i)) [
        | inl t ↦ constant-reads (λ j. Below i n (read_in (standings net s) (s i).cycle j)) i n h t
        | inr f ↦
            λ k d l.
            let j = get_or (reads_of n) k d in
            let r = reads_in net s gates setup period valid fits i n h k d l in
            let there = node_there net s j (omega (arith, r.0, slice_get_within net.nodes i n h)) in
            let own : node_rank i ≡ (s i).cycle + slice_index (delays net.nodes) i
            = ap (λ b. if b then 0 else (s i).cycle + slice_index (delays net.nodes) i) f in
            omega (arith, own, delays-read net.nodes i n h k d l r.0, in-rank (s i).cycle j (get_or net.nodes j (Delay 0)) there r.1)
      ]

  abbrev own : ℕ → Node → Driver
  own i n = own_driver (length (enable_inputs enable)) (standings net s) (standing_of net s i n) n

  own-rank : (i : ℕ) (n : Node) → slice_get net.nodes i ≡ Some n → (m : ℕ) → target (own i n) ≡ signal m → rank m ≡ node_rank i
  own-rank i n h m t =
      let at : signal (signals_before (copies net s) i)
      ≡ signal m = sym (target-own (length (enable_inputs enable)) (standings net s) (standing_of net s i n) n) ∙ t in
      let is : signals_before (copies net s) i ≡ m = cc in
      let e : m ≡ signal_of net s i 0 = omega (arith, is) in
      omega (arith, ap rank e, rank-is i 0 n h (omega arith))

  own-counts : (i : ℕ) (n : Node) → slice_get net.nodes i ≡ Some n → (m r : ℕ) → target (own i n) ≡ signal m → Reads r (own i n)
      → rank r + registers_in (own i n) ≤ rank m
  own-counts i n h m r t q =
      let below = read-holds (Below i n) (λ p. Unit {0}) r (own i n)
      (own_operands called enable net s gates setup period valid fits (Below i n) (λ p. Unit {0}) i n h (operands-below i n h) (λ p l. tt)) q in
      omega (arith, below, own-rank i n h m t, registers-own (length (enable_inputs enable)) net s i n)

  delay-below : (i : ℕ) (n : Node) → slice_get net.nodes i ≡ Some n → own_delay n ≤ node_rank i
  delay-below i (Input place w) h = omega arith
  delay-below i (Constant w) h = omega arith
  delay-below i (Cells class w e) h = omega arith
  delay-below i (Choice on one other) h = omega arith
  delay-below i (Table address rows) h = omega arith
  delay-below i (Delay of) h =
      let below = All-head (λ j. Below i (Delay of) (read_in (standings net s) (s i).cycle j)) of [] (operands-below i (Delay of) h) in
      omega (arith, below)

  own-rests : (i : ℕ) (n : Node) → slice_get net.nodes i ≡ Some n → (m : ℕ) → target (own i n) ≡ signal m → registers_in (own i n) ≤ rank m
  own-rests i n h m t =
      omega (arith, delay-below i n h, own-rank i n h m t, registers-own (length (enable_inputs enable)) net s i n)

  -- a copy's rank is one more than that of what it copies
  copy-rank : (i k : ℕ) (n : Node) → slice_get net.nodes i ≡ Some n → k < copies net s i → (m r : ℕ)
      → signal (signals_before (copies net s) i + 1 + k) ≡ signal m → signals_before (copies net s) i + k ≡ r
      → (rank m ≡ node_rank i + suc k) × (rank r ≡ node_rank i + k)
  copy-rank i k n h l m r t q =
      let is : signals_before (copies net s) i + 1 + k ≡ m = cc in
      let e : m ≡ signal_of net s i (suc k) = omega (arith, is) in
      let f : r ≡ signal_of net s i k = omega (arith, q) in
      (ap rank e ∙ rank-is i (suc k) n h (omega (arith, l)), ap rank f ∙ rank-is i k n h (omega (arith, l)))

  counts : CountRegisters (without_enable (design_of called enable net s)) rank
  counts = record {
    reads = λ m r k c t q.
        (
        by_driver net s enable (λ k. (m r : ℕ) → target k ≡ signal m → Reads r k → rank r + registers_in k ≤ rank m)
        own-counts
        (λ i k n h l m r t q. let e = copy-rank i k n h l m r t (only q) in omega (arith, e.0, e.1))
        (λ j o h m r t q. absurd (cc)) k c
        ) m r t q;
    registers = λ m k c t.
        (
        by_driver net s enable (λ k. (m : ℕ) → target k ≡ signal m → registers_in k ≤ rank m)
        own-rests
        (λ i k n h l m t. let e = copy-rank i k n h l m (signals_before (copies net s) i + k) t refl in omega (arith, e.0))
        (λ j o h m t. absurd (cc)) k c
        ) m t;
  }

  module _ (most : ℕ) (passes : PassesAtMost most net.nodes) where
    output-shown : (j : ℕ) (o : net_output.Output) → slice_get net.outputs j ≡ Some o
        → AllReads (λ r. rank r ≤ net_latency net s + most) (λ p. Unit {0}) (slice_in (standings net s) (net_latency net s) o.from)
    output-shown j o h =
        let g = output_reads_in net s gates setup period valid fits j o h in
        let there = node_there net s o.from.node g.0 in
        let below = in-rank (net_latency net s) o.from.node (get_or net.nodes o.from.node (Delay 0)) there g.1 in
        part-reads (standings net s) (net_latency net s) (λ r. rank r ≤ net_latency net s + most) (λ p. Unit {0}) o.from.node o.from.high
        o.from.low (omega (arith, below, at-most most (delays net.nodes) o.from.node passes))

    looks-back : LooksBack (without_enable (design_of called enable net s)) (net_latency net s + most)
    looks-back = record {
      no_enable = refl;
      rank = rank;
      ranks = counts;
      shown = λ p r k c t q.
          (
          by_driver net s enable (λ k. (p r : ℕ) → target k ≡ port_of p → Reads r k → rank r ≤ net_latency net s + most)
          (λ i n h p r t q. absurd (let both : signal (signals_before (copies net s) i)
          ≡ port_of p = sym (target-own (length (enable_inputs enable)) (standings net s) (standing_of net s i n) n) ∙ t in cc))
          (λ i k n h l p r t q. absurd (cc))
          (λ j o h p r t q. read-holds (λ r. rank r ≤ net_latency net s + most) (λ p. Unit {0}) r
          (driver.Output p (slice_in (standings net s) (net_latency net s) o.from)) (output-shown j o h, tt) q) k c
          ) p r t q;
    }

pub design-looks_back : DesignLooksBack
design-looks_back called enable net gates setup period s valid fits most passes =
    looks-back called enable net s gates setup period valid fits most passes
