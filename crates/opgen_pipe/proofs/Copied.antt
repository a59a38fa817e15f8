-- Each node that is read in a cycle has the copy that is read.
use Rattle.std.proofs.Common.{◌≡◌, ℕ, zero, suc, ◌+◌, ◌-◌, ◌<◌, ◌≤◌, Bool, true, false, List, [], ◌∷◌, length, get_or, Some, sym, ap, ◌∙◌, subst, arith, inl, inr, rules}
use Rattle.std.specs.Prelude.{max, nat_eq, if◌then◌else◌, All, slice_get, slice_index}
use Rattle.std.proofs.lemmas.Bool.{cases_Bool}
use Rattle.std.proofs.lemmas.List.Elements.{All-nil, All-cons}
use Rattle.std.proofs.lemmas.Option.{slice_get-get_or, slice_get_within, get_or_from_slice_get}
use Rattle.opgen_net.specs.declared.net.Net.{Net}
use Rattle.opgen_net.specs.declared.net.Output.{Output}
use Rattle.opgen_net.specs.declared.node.Node.{Node}
use Rattle.opgen_net.specs.declared.node.Node.TheVariants.{Input, Constant, Cells, Choice, Table, Delay}
use Rattle.opgen_net.specs.Valid.{widths, IsValid}
use Rattle.opgen_net.proofs.FlowLaws.{length-widths, lies_within}
use Rattle.opgen_schedule.specs.Reads.{reads_of, is_constant, is_some_constant, is_constant_at}
use Rattle.opgen_schedule.specs.Schedule.{Schedule, FitsAt, Fits, latency}
use Rattle.opgen_schedule.proofs.Reading.{reads-before}
use Rattle.opgen_pipe.specs.declared.standing.Standing.{Standing}
use Rattle.opgen_pipe.specs.Copies.{copy_read, copy_read_by, output_nodes, net_latency, copies, signals_before, signal_of}
use Rattle.opgen_pipe.specs.Standings.{standing_of, standings, nowhere, standing_at}
use Rattle.opgen_pipe.specs.Reading.{read_in}
use Rattle.opgen_pipe.proofs.Lists.{get-each, get-mapped}

eqb_same : (k : ℕ) → nat_eq k k ≡ true
eqb_same k = search rules

-- what the copy bounds that is read of each node in a cycle
module _ (s : Schedule) (c : ℕ) (P : ℕ → Type 0) where
  each : (ks : List ℕ) → ((j : ℕ) → c ≤ (s j).cycle + copy_read s c j ks → P j) → All P ks
  each [] f = All-nil P
  each (k ∷ ks) f =
      All-cons P k ks
      (f k (let e : (if nat_eq k k then c - (s k).cycle else 0)
      ≡ c - (s k).cycle = ap (λ b. if b then c - (s k).cycle else 0) (eqb_same k) in omega (arith, e)))
      (each ks (λ j h. f j (omega (arith, h))))

one_at : (s : Schedule) (ns : List Node) (i m j : ℕ) (n : Node) → slice_get ns m ≡ Some n
    → copy_read s (s (i + m)).cycle j (reads_of n) ≤ copy_read_by s i j ns
one_at s [] i m j n h = absurd (cc)
one_at s (o ∷ ns) i zero j n h =
    let is : o ≡ n = cc in
    let e : i + 0 ≡ i = omega arith in
    let same : copy_read s (s (i + 0)).cycle j (reads_of n) ≡ copy_read s (s i).cycle j (reads_of o) =
    ap (λ x. copy_read s (s x).cycle j (reads_of n)) e ∙ ap (λ x. copy_read s (s i).cycle j (reads_of x)) (sym is) in
    omega (arith, same)
one_at s (o ∷ ns) i (suc m) j n h =
    let e : i + suc m ≡ i + 1 + m = omega arith in
    let same : copy_read s (s (i + suc m)).cycle j (reads_of n)
    ≡ copy_read s (s (i + 1 + m)).cycle j (reads_of n) = ap (λ x. copy_read s (s x).cycle j (reads_of n)) e in
    omega (arith, same, one_at s ns (i + 1) m j n h)

not_later : (nodes : List Node) (s : Schedule) (os : List Output)
    → All (λ o. is_constant_at nodes o.from.node ≡ false → (s o.from.node).cycle ≤ latency nodes s os) os
not_later nodes s [] = All-nil (λ o. is_constant_at nodes o.from.node ≡ false → (s o.from.node).cycle ≤ 0)
not_later nodes s (o ∷ os) =
    let l = latency nodes s (o ∷ os) in
    let one : ℕ = (if is_constant_at nodes o.from.node then 0 else (s o.from.node).cycle) in
    let P : Output → Type 0 = λ o. is_constant_at nodes o.from.node ≡ false → (s o.from.node).cycle ≤ l in
    All-cons P o os
    (λ e. let f : one ≡ (s o.from.node).cycle = ap (λ b. if b then 0 else (s o.from.node).cycle) e in omega (arith, f))
    (λ k d m e. omega (arith, not_later nodes s os k d m e))

module _ (net : Net) (s : Schedule) where
  abbrev ps : List Standing
  ps = standings net s

  pub standing-is : (i : ℕ) (n : Node) → slice_get net.nodes i ≡ Some n → standing_at (standings net s) i ≡ standing_of net s i n
  standing-is i n h = get_or_from_slice_get (standings net s) i (standing_of net s i n) nowhere
      (get-each (standing_of net s) net.nodes i n h)

  pub node_there : (i : ℕ) → i < length net.nodes → slice_get net.nodes i ≡ Some (get_or net.nodes i (Delay 0))
  node_there i l = slice_get-get_or net.nodes i (Delay 0) l

  -- a node that is read in a cycle stands in none later, and has a copy for it
  abbrev pub ReadIn : (cycle node : ℕ) → Type 0
  ReadIn c j = is_constant_at net.nodes j ≡ false → ((s j).cycle ≤ c) × (c ≤ (s j).cycle + copies net s j)

  -- the copy that is read
  pub record CopyRead (c j : ℕ) : Type 0 where
    pub copy : ℕ
    pub within : copy ≤ copies net s j
    pub is : read_in (standings net s) c j ≡ signal_of net s j copy
    pub distance : is_constant_at net.nodes j ≡ false → (s j).cycle + copy ≡ c

  constant-at : (j : ℕ) (n : Node) → slice_get net.nodes j ≡ Some n → is_constant_at net.nodes j ≡ is_constant n
  constant-at j n h = ap is_some_constant h

  pub copy_of_read : (c j : ℕ) → j < length net.nodes → ReadIn c j → CopyRead c j
  copy_of_read c j l r =
      let n = get_or net.nodes j (Delay 0) in
      let h = node_there j l in
      let e = standing-is j n h in
      let f : Standing → ℕ = λ o. o.signal + (if o.constant then 0 else c - o.slot.cycle) in
      let g : Bool → ℕ = λ b. signals_before (copies net s) j + (if b then 0 else c - (s j).cycle) in
      elim (cases_Bool (is_constant n)) [
        | inl t ↦ record {
          copy = 0;
          within = omega arith;
          is = ap f e ∙ ap g t;
          distance = λ x. absurd (let both : true ≡ false = sym t ∙ sym (constant-at j n h) ∙ x in cc);
        }
        | inr t ↦
            let q = r (constant-at j n h ∙ t) in
            record {
              copy = c - (s j).cycle;
              within = omega (arith, q.0, q.1);
              is = ap f e ∙ ap g t;
              distance = λ x. omega (arith, q.0);
            }
      ]

  live : (j : ℕ) → is_constant_at net.nodes j ≡ false → copies net s j
      ≡ max (copy_read_by s 0 j net.nodes) (copy_read s (net_latency net s) j (output_nodes net))
  live j e = ap (λ b. if b then 0 else max (copy_read_by s 0 j net.nodes) (copy_read s (net_latency net s) j (output_nodes net))) e

  nodes_copied : (i : ℕ) (n : Node) → slice_get net.nodes i ≡ Some n
      → All (λ j. is_constant_at net.nodes j ≡ false → (s i).cycle ≤ (s j).cycle + copies net s j) (reads_of n)
  nodes_copied i n h =
      each s (s i).cycle (λ j. is_constant_at net.nodes j ≡ false → (s i).cycle ≤ (s j).cycle + copies net s j) (reads_of n)
      (
      λ j a e. let at : 0 + i ≡ i = omega arith in
      omega (arith, a, live j e, one_at s net.nodes 0 i j n h, ap (λ x. copy_read s (s x).cycle j (reads_of n)) at)
      )

  outputs_copied : All (λ j. is_constant_at net.nodes j ≡ false → net_latency net s ≤ (s j).cycle + copies net s j) (output_nodes net)
  outputs_copied =
      each s (net_latency net s) (λ j. is_constant_at net.nodes j ≡ false → net_latency net s ≤ (s j).cycle + copies net s j)
      (output_nodes net)
      (λ j a e. omega (arith, a, live j e))

  module _ (delays : List ℕ) (setup period : ℕ) (valid : IsValid net) (fits : Fits net.nodes delays setup period s) where
    early : (i : ℕ) (n : Node) → FitsAt net.nodes setup period s (slice_index delays i) i n
        → All (λ j. is_constant_at net.nodes j ≡ false → (s j).cycle ≤ (s i).cycle) (reads_of n)
    early i (Input port w) f = All-nil (λ j. is_constant_at net.nodes j ≡ false → (s j).cycle ≤ (s i).cycle)
    early i (Constant w) f = All-nil (λ j. is_constant_at net.nodes j ≡ false → (s j).cycle ≤ (s i).cycle)
    early i (Cells class w x) f = λ k d l e. (f.operands k d l e).0
    early i (Choice on one other) f = λ k d l e. (f.operands k d l e).0
    early i (Table address rows) f = λ k d l e. (f.operands k d l e).0
    early i (Delay of) f = let P : ℕ → Type 0 = λ j. is_constant_at net.nodes j ≡ false
        → (s j).cycle ≤ (s i).cycle in All-cons P of [] f.1 (All-nil P)

    -- what a node reads stands before it, with a copy for its cycle
    pub reads_in : (i : ℕ) (n : Node) → slice_get net.nodes i ≡ Some n → All (λ j. (j < i) × ReadIn (s i).cycle j) (reads_of n)
    reads_in i n h =
        let b = reads-before net.nodes valid.nodes i n h in
        let a = early i n (fits.nodes_fit i n h) in
        let c = nodes_copied i n h in
        λ k d l. (b k d l, λ e. (a k d l e, c k d l e))

    -- and so does what an output reads for the latency
    pub output_reads_in : (place : ℕ) (o : Output) → slice_get net.outputs place ≡ Some o → (o.from.node < length net.nodes)
        × ReadIn (net_latency net s) o.from.node
    output_reads_in place o h =
        let l = slice_get_within net.outputs place o h in
        let is : get_or net.outputs place o ≡ o = get_or_from_slice_get net.outputs place o o h in
        let lies = subst (λ x. (x.from.low ≤ x.from.high) × (x.from.high < slice_index (widths net.nodes) x.from.node)) is
        (valid.outputs place o l) in
        let a = subst (λ x. is_constant_at net.nodes x.from.node ≡ false → (s x.from.node).cycle ≤ net_latency net s) is
        (not_later net.nodes s net.outputs place o l) in
        let node : slice_get (output_nodes net) place ≡ Some o.from.node = get-mapped (λ o. o.from.node) net.outputs place o h in
        let c = subst (λ j. is_constant_at net.nodes j ≡ false → net_latency net s ≤ (s j).cycle + copies net s j)
        (get_or_from_slice_get (output_nodes net) place o.from.node 0 node)
        (outputs_copied place 0 (slice_get_within (output_nodes net) place o.from.node node)) in
        (omega (arith, lies_within (widths net.nodes) o.from lies, length-widths net.nodes), λ e. (a e, c e))
