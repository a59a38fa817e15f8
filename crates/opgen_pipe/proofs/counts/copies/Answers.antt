use Rattle.std.proofs.Common.{◌≡◌, ◌+◌, ◌<◌, ℕ, Bool, true, false, List, ◌++◌, length, map, take, drop, get_or, refl, sym, ap, ◌∙◌, arith}
use Rattle.std.specs.Prelude.{max, if◌then◌else◌}
use Rattle.std.proofs.lemmas.List.{append-nil, drop_all, take_all}
use Rattle.opgen_net.specs.declared.net.Net.{Net}
use Rattle.opgen_net.specs.declared.node.Node.{Node}
use Rattle.opgen_schedule.specs.Reads.{reads_of, is_constant_at}
use Rattle.opgen_schedule.specs.Schedule.{Schedule}
use Rattle.opgen_schedule.specs.Stage.{slot_at}
use Rattle.opgen_pipe.specs.Copies.{copies, copy_read, copy_read_by, net_latency, output_nodes}
use Rattle.opgen_pipe.proofs.Steps.{drop-item}
use Rattle.opgen_pipe.proofs.There.{reads_there, output_nodes_there}
use Rattle.opgen_pipe.proofs.counts.copies.Goals as goal

-- what a node reads is counted with what those after it read
next-read : (s : Schedule) (ns : List Node) (i j : ℕ) (n : Node) (old new cycle : ℕ) (reads : List ℕ) → i < length ns → n ≡ get_or ns i n
    → cycle ≡ (s i).cycle → reads ≡ reads_of n → new ≡ max old (copy_read s cycle j reads)
    → max new (copy_read_by s (i + 1) j (drop (i + 1) ns)) ≡ max old (copy_read_by s i j (drop i ns))
next-read s ns i j n old new cycle reads l e f g is =
    let here : new ≡ max old (copy_read s (s i).cycle j (reads_of n)) =
    is ∙ ap (λ c. max old (copy_read s c j reads)) f ∙ ap (λ ks. max old (copy_read s (s i).cycle j ks)) g in
    omega (arith, here, ap (copy_read_by s i j) (drop-item ns i n l e))

-- the copies of a node from those that nodes and outputs read
copies-read : (net : Net) (s : Schedule) (ns : List Node) (i old new last : ℕ) (reads : List ℕ) → ns ≡ net.nodes → last ≡ net_latency net s
    → reads ≡ output_nodes net → (is_constant_at ns i ≡ false → old ≡ copy_read_by s 0 i ns)
    → (is_constant_at ns i ≡ false → new ≡ max old (copy_read s last i reads)) → (is_constant_at ns i ≡ true → new ≡ 0)
    → new ≡ copies net s i
copies-read net s ns i old new last reads d e f before after still =
    by (is_constant_at ns i) still (λ h. after h ∙ ap (λ k. max k (copy_read s last i reads)) (before h))
    ∙ ap (λ ms. if is_constant_at ms i then 0 else max (copy_read_by s 0 i ms) (copy_read s last i reads)) d
    ∙ ap (λ c. if is_constant_at net.nodes i then 0 else max (copy_read_by s 0 i net.nodes) (copy_read s c i reads)) e
    ∙ ap (λ ks. if is_constant_at net.nodes i then 0 else max (copy_read_by s 0 i net.nodes) (copy_read s (net_latency net s) i ks)) f
  where
    by : (b : Bool) → (b ≡ true → new ≡ 0) → (b ≡ false → new ≡ max (copy_read_by s 0 i ns) (copy_read s last i reads))
        → new ≡ (if b then 0 else max (copy_read_by s 0 i ns) (copy_read s last i reads))
    by true h k = h refl
    by false h k = k refl

-- a whole list that is written over is the new one
written : (n : ℕ) (new old : List ℕ) → n ≡ length old → length new ≡ length old → take n (new ++ drop (length new) old) ≡ new
written n new old e l =
    ap (λ xs. take n (new ++ xs)) (drop_all (length new) old (omega (arith, l))) ∙ ap (take n) (append-nil new)
    ∙ take_all n new (omega (arith, e, l))

pub raise_all-requires-clause-there : goal.raise_all-requires-clause-there
raise_all-requires-clause-there c =
    reads_there c.args.net.now c.requires.valid c.as_slice-nodes.result.now c.as_slice-nodes.ensures c.nodes.place
    c.index-nodes-place.result c.nodes-test.true c.index-nodes-place.is
    c.deref.result.now (c.deref.ensures.value ∙ c.in_ok-reads.ensures)

pub raise_all-requires-2-clause-there : goal.raise_all-requires-2-clause-there
raise_all-requires-2-clause-there c =
    output_nodes_there c.args.net.now c.requires.valid c.as_slice-nodes.result.now c.as_slice-nodes.ensures c.as_slice.result.now
    c.as_slice.ensures
    c.deref-2.result.now (c.deref-2.ensures.value ∙ c.in_ok-last.ensures)

pub raise_all-requires-clause-slots : goal.raise_all-requires-clause-slots
raise_all-requires-clause-slots c = c.requires.slots ∙ ap length (sym c.as_slice-nodes.ensures)

pub raise_all-requires-2-clause-slots : goal.raise_all-requires-2-clause-slots
raise_all-requires-2-clause-slots c = c.requires.slots ∙ ap length (sym c.as_slice-nodes.ensures)

pub raise_all-requires-clause-counts : goal.raise_all-requires-clause-counts
raise_all-requires-clause-counts c = ap length c.deref_mut.ensures.value ∙ c.nodes.invariant.count

pub raise_all-requires-2-clause-counts : goal.raise_all-requires-2-clause-counts
raise_all-requires-2-clause-counts c = ap length c.deref_mut-2.ensures.value ∙ c.nodes.invariant.count

pub nodes-preserved : goal.nodes-preserved
nodes-preserved c =
    let old = c.nodes.counts.items in
    let new = c.raise_all.new.counts in
    let same = c.deref_mut.ensures.value in
    let long : length new ≡ length old = omega (arith, c.raise_all.auto.counts, ap length same) in
    let w = written c.nodes.counts.len new old (omega (arith, c.nodes.counts.ok.0)) long in
    record {
      count = ap length w ∙ long ∙ c.nodes.invariant.count;
      live = λ j l h.
          next-read (slot_at c.args.slots.now) c.as_slice-nodes.result.now c.nodes.place j c.index-nodes-place.result (get_or old j 0) _ _
          c.deref.result.now c.nodes-test.true c.index-nodes-place.is refl (c.deref.ensures.value ∙ c.in_ok-reads.ensures)
          (ap (λ xs. get_or xs j 0) w ∙ c.raise_all.ensures.live j l h
          ∙ ap (λ xs. max (get_or xs j 0) (copy_read (slot_at c.args.slots.now) (slot_at c.args.slots.now c.nodes.place).cycle j
          c.deref.result.now)) same)
          ∙ c.nodes.invariant.live j l h;
      still = λ j h. ap (λ xs. get_or xs j 0) w ∙ c.raise_all.ensures.still j h ∙ ap (λ xs. get_or xs j 0) same
          ∙ c.nodes.invariant.still j h;
    }

pub returns : goal.returns
returns c =
    let net = c.args.net.now in
    let s = slot_at c.args.slots.now in
    let ns = c.as_slice-nodes.result.now in
    let reads = c.deref-2.result.now in
    let old = c.nodes.counts.items in
    let new = c.raise_all-2.new.counts in
    let same = c.deref_mut-2.ensures.value in
    let long : length new ≡ length old = omega (arith, c.raise_all-2.auto.counts, ap length same) in
    let w = written c.nodes.counts.len new old (omega (arith, c.nodes.counts.ok.0)) long in
    let is_nodes = c.as_slice-nodes.ensures in
    record {
      one_each = ap length w ∙ long ∙ c.nodes.invariant.count ∙ ap length is_nodes;
      each = λ i l.
          let m : i < length ns = omega (arith, l, ap length is_nodes) in
          copies-read net s ns i (get_or old i 0) _ c.args.latency reads is_nodes c.requires.latency
          (c.deref-2.ensures.value ∙ c.in_ok-last.ensures ∙ ap (map (λ o. o.from.node)) c.as_slice.ensures)
          (λ h. omega (arith, c.nodes.invariant.live i m h, ap (copy_read_by s c.nodes.place i) (drop_all c.nodes.place ns c.nodes-test.false)))
          (λ h. ap (λ xs. get_or xs i 0) w ∙ c.raise_all-2.ensures.live i m h
          ∙ ap (λ xs. max (get_or xs i 0) (copy_read s c.args.latency i reads)) same)
          (λ h. ap (λ xs. get_or xs i 0) w ∙ c.raise_all-2.ensures.still i h ∙ ap (λ xs. get_or xs i 0) same
          ∙ c.nodes.invariant.still i h);
    }
