-- The marks of the nodes that are needed whole: each node's reads are marked.
use Rattle.std.proofs.Common.{◌≡◌, ℕ, zero, suc, ◌<◌, Bool, true, false, List, [], ◌∷◌, length, refl, sym, ◌∙◌, subst, arith}
use Rattle.std.specs.Prelude.{All, Some, replicate, slice_get, slice_index_or, slice_set}
use Rattle.std.proofs.lemmas.List.{get_or-set_same, length-replicate, length-set}
use Rattle.std.proofs.lemmas.List.Elements.{All-cons, All-nil, All-tail}
use Rattle.opgen_design.specs.declared.expr.Op.TheVariants.{Cat}
use Rattle.opgen_design.specs.Sound.{AllReads, AllOperandsRead}
use Rattle.opgen_design.proofs.ReadLaws.{reads-weaker}
use Rattle.opgen_design.specs.Tree.{Tree, Trees, name, part, bits, port, inverse, chain, none, more}
use Rattle.opgen_net.specs.declared.cell.Class.{Class}
use Rattle.opgen_net.specs.declared.cell.Class.TheVariants as class
use Rattle.opgen_net.specs.declared.net.Net.{Net}
use Rattle.opgen_net.specs.declared.net.Output.{Output}
use Rattle.opgen_net.specs.declared.node.Node.{Node}
use Rattle.opgen_net.specs.declared.node.Node.TheVariants.{Input, Constant, Cells, Choice, Table, Delay}
use Rattle.opgen_cuts.specs.Needed.{with_mark, with_reads, with_operands, with_cell_reads, with_node, with_nodes, with_outputs, needed}
use Rattle.opgen_cuts.proofs.Renames.{AnyPort}

abbrev pub IsMarked : List Bool → ℕ → Type 0
IsMarked marks n = slice_index_or marks n false ≡ true

-- marks that have become more
record Kept (old new : List Bool) : Type 0 where
  count : length new ≡ length old
  marks : (n : ℕ) → IsMarked old n → IsMarked new n

kept-same : (marks : List Bool) → Kept marks marks
kept-same marks = record { count = refl; marks = λ n h. h }

kept-then : (a b c : List Bool) → Kept a b → Kept b c → Kept a c
kept-then a b c p q = record { count = q.count ∙ p.count; marks = λ n h. q.marks n (p.marks n h) }

mark-keeps : (marks : List Bool) (k n : ℕ) → IsMarked marks n → IsMarked (slice_set marks k true) n
mark-keeps [] k n h = h
mark-keeps (m ∷ marks) zero zero h = refl
mark-keeps (m ∷ marks) zero (suc n) h = h
mark-keeps (m ∷ marks) (suc k) zero h = h
mark-keeps (m ∷ marks) (suc k) (suc n) h = mark-keeps marks k n h

mark-kept : (k : ℕ) (marks : List Bool) → Kept marks (with_mark k marks)
mark-kept k marks = record { count = length-set marks k true; marks = λ n h. mark-keeps marks k n h }

mark-made : (k : ℕ) (marks : List Bool) → k < length marks → IsMarked (with_mark k marks) k
mark-made k marks h = get_or-set_same marks k true false h

mutual
  reads-kept : (t : Tree) (marks : List Bool) → Kept marks (with_reads t marks)
  reads-kept (name n) marks = mark-kept n marks
  reads-kept (part n high low) marks = mark-kept n marks
  reads-kept (bits w) marks = kept-same marks
  reads-kept (port p) marks = kept-same marks
  reads-kept (inverse t) marks = reads-kept t marks
  reads-kept (chain op ts) marks = operands-kept ts marks

  operands-kept : (ts : Trees) (marks : List Bool) → Kept marks (with_operands ts marks)
  operands-kept none marks = kept-same marks
  operands-kept (more t ts) marks =
      kept-then marks (with_reads t marks) (with_operands ts (with_reads t marks)) (reads-kept t marks) (operands-kept ts (with_reads t marks))

cells-kept : (c : Class) (e : Tree) (marks : List Bool) → Kept marks (with_cell_reads c e marks)
cells-kept class.Wire e marks = kept-same marks
cells-kept class.Logic e marks = reads-kept e marks
cells-kept class.Add e marks = kept-same marks
cells-kept class.Choice e marks = reads-kept e marks
cells-kept class.Table e marks = reads-kept e marks
cells-kept class.Register e marks = reads-kept e marks

node-kept : (n : Node) (marks : List Bool) → Kept marks (with_node n marks)
node-kept (Input place w) marks = kept-same marks
node-kept (Constant w) marks = kept-same marks
node-kept (Cells c w e) marks = cells-kept c e marks
node-kept (Choice on one other) marks =
    let a = with_mark on marks in
    let b = with_mark one.node a in
    kept-then marks a (with_mark other.node b) (mark-kept on marks)
    (kept-then a b (with_mark other.node b) (mark-kept one.node a) (mark-kept other.node b))
node-kept (Table address rows) marks = mark-kept address marks
node-kept (Delay of) marks = mark-kept of marks

nodes-kept : (ns : List Node) (marks : List Bool) → Kept marks (with_nodes ns marks)
nodes-kept [] marks = kept-same marks
nodes-kept (n ∷ ns) marks =
    kept-then marks (with_node n marks) (with_nodes ns (with_node n marks)) (node-kept n marks) (nodes-kept ns (with_node n marks))

outputs-kept : (os : List Output) (marks : List Bool) → Kept marks (with_outputs os marks)
outputs-kept [] marks = kept-same marks
outputs-kept (o ∷ os) marks =
    let a = with_mark o.from.node marks in
    kept-then marks a (with_outputs os a) (mark-kept o.from.node marks) (outputs-kept os a)

-- the reads of an expression are marked
mutual
  reads-marked : (t : Tree) (marks : List Bool) → AllReads (λ n. n < length marks) AnyPort t
      → AllReads (IsMarked (with_reads t marks)) AnyPort t
  reads-marked (name n) marks h = mark-made n marks h
  reads-marked (part n high low) marks h = mark-made n marks h
  reads-marked (bits w) marks h = tt
  reads-marked (port p) marks h = tt
  reads-marked (inverse t) marks h = reads-marked t marks h
  reads-marked (chain op ts) marks h = operands-marked ts marks h

  operands-marked : (ts : Trees) (marks : List Bool) → AllOperandsRead (λ n. n < length marks) AnyPort ts
      → AllOperandsRead (IsMarked (with_operands ts marks)) AnyPort ts
  operands-marked none marks h = tt
  operands-marked (more t ts) marks h =
      let a = with_reads t marks in
      let first = reads-kept t marks in
      let rest = operands-kept ts a in (
        reads-weaker (IsMarked a) AnyPort (IsMarked (with_operands ts a)) AnyPort rest.marks (λ p q. q) t (reads-marked t marks h.0),
        operands-marked ts a (reads-weaker (λ n. n < length marks) AnyPort (λ n. n < length a) AnyPort
            (λ n l. omega (arith, l, first.count)) (λ p q. q) (chain Cat ts) h.1),
      )

-- something holds of each node that a node reads, and of each that it needs whole

abbrev pub Reads : (P : ℕ → Type 0) → Node → Type 0
Reads P (Input place w) = Unit {0}
Reads P (Constant w) = Unit {0}
Reads P (Cells c w e) = AllReads P AnyPort e
Reads P (Choice on one other) = P on × P one.node × P other.node
Reads P (Table address rows) = P address
Reads P (Delay of) = P of

abbrev pub CellsNeed : (P : ℕ → Type 0) → Class → Tree → Type 0
CellsNeed P class.Wire e = Unit {0}
CellsNeed P class.Add e = Unit {0}
CellsNeed P _ e = AllReads P AnyPort e

abbrev pub Needs : (P : ℕ → Type 0) → Node → Type 0
Needs P (Input place w) = Unit {0}
Needs P (Constant w) = Unit {0}
Needs P (Cells c w e) = CellsNeed P c e
Needs P (Choice on one other) = P on × P one.node × P other.node
Needs P (Table address rows) = P address
Needs P (Delay of) = P of

module _ (P Q : ℕ → Type 0) (weaker : (n : ℕ) → P n → Q n) where
  trees-weaker : (t : Tree) → AllReads P AnyPort t → AllReads Q AnyPort t
  trees-weaker t h = reads-weaker P AnyPort Q AnyPort weaker (λ p q. q) t h

  cells-weaker : (c : Class) (e : Tree) → CellsNeed P c e → CellsNeed Q c e
  cells-weaker class.Wire e h = tt
  cells-weaker class.Logic e h = trees-weaker e h
  cells-weaker class.Add e h = tt
  cells-weaker class.Choice e h = trees-weaker e h
  cells-weaker class.Table e h = trees-weaker e h
  cells-weaker class.Register e h = trees-weaker e h

  pub needs-weaker : (n : Node) → Needs P n → Needs Q n
  needs-weaker (Input place w) h = tt
  needs-weaker (Constant w) h = tt
  needs-weaker (Cells c w e) h = cells-weaker c e h
  needs-weaker (Choice on one other) h = (weaker on h.0, weaker one.node h.1, weaker other.node h.2)
  needs-weaker (Table address rows) h = weaker address h
  needs-weaker (Delay of) h = weaker of h

  pub all_reads-weaker : (n : Node) → Reads P n → Reads Q n
  all_reads-weaker (Input place w) h = tt
  all_reads-weaker (Constant w) h = tt
  all_reads-weaker (Cells c w e) h = trees-weaker e h
  all_reads-weaker (Choice on one other) h = (weaker on h.0, weaker one.node h.1, weaker other.node h.2)
  all_reads-weaker (Table address rows) h = weaker address h
  all_reads-weaker (Delay of) h = weaker of h

-- what a node needs whole is marked, if it is there
cells-marked : (c : Class) (e : Tree) (marks : List Bool) → AllReads (λ n. n < length marks) AnyPort e
    → CellsNeed (IsMarked (with_cell_reads c e marks)) c e
cells-marked class.Wire e marks h = tt
cells-marked class.Logic e marks h = reads-marked e marks h
cells-marked class.Add e marks h = tt
cells-marked class.Choice e marks h = reads-marked e marks h
cells-marked class.Table e marks h = reads-marked e marks h
cells-marked class.Register e marks h = reads-marked e marks h

node-marked : (n : Node) (marks : List Bool) → Reads (λ k. k < length marks) n → Needs (IsMarked (with_node n marks)) n
node-marked (Input place w) marks h = tt
node-marked (Constant w) marks h = tt
node-marked (Cells c w e) marks h = cells-marked c e marks h
node-marked (Choice on one other) marks h =
    let a = with_mark on marks in
    let b = with_mark one.node a in
    let first = mark-kept on marks in
    let second = mark-kept one.node a in
    let third = mark-kept other.node b in (
      third.marks on (second.marks on (mark-made on marks h.0)),
      third.marks one.node (mark-made one.node a (omega (arith, h.1, first.count))),
      mark-made other.node b (omega (arith, h.2, first.count, second.count)),
    )
node-marked (Table address rows) marks h = mark-made address marks h
node-marked (Delay of) marks h = mark-made of marks h

nodes-marked : (ns : List Node) (marks : List Bool) (i : ℕ) (n : Node) → slice_get ns i ≡ Some n → Reads (λ k. k < length marks) n
    → Needs (IsMarked (with_nodes ns marks)) n
nodes-marked [] marks i n e h = absurd (cc)
nodes-marked (m ∷ ns) marks zero n e h =
    let is : n ≡ m = cc in
    let made = with_node m marks in
    subst (Needs (IsMarked (with_nodes ns made))) (sym is)
    (needs-weaker (IsMarked made) (IsMarked (with_nodes ns made)) (nodes-kept ns made).marks m
    (node-marked m marks (subst (Reads (λ k. k < length marks)) is h)))
nodes-marked (m ∷ ns) marks (suc i) n e h =
    let made = with_node m marks in
    let count = (node-kept m marks).count in
    nodes-marked ns made i n e
    (all_reads-weaker (λ k. k < length marks) (λ k. k < length made) (λ k l. omega (arith, l, count)) n h)

outputs-marked : (os : List Output) (marks : List Bool) → All (λ o. o.from.node < length marks) os
    → All (λ o. IsMarked (with_outputs os marks) o.from.node) os
outputs-marked [] marks h = All-nil (λ o. IsMarked marks o.from.node)
outputs-marked (o ∷ os) marks h =
    let made = with_mark o.from.node marks in
    let kept = mark-kept o.from.node marks in
    let there = All-tail (λ p. p.from.node < length marks) o os h in
    All-cons (λ p. IsMarked (with_outputs os made) p.from.node) o os
    ((outputs-kept os made).marks o.from.node (mark-made o.from.node marks (h 0 o (omega arith))))
    (outputs-marked os made (λ k d l. omega (arith, there k d l, kept.count)))

module _ (net : Net) where
  abbrev blank : List Bool
  blank = replicate (length net.nodes) false

  blank-count : length blank ≡ length net.nodes
  blank-count = length-replicate (length net.nodes) false

  abbrev of_nodes : List Bool
  of_nodes = with_nodes net.nodes blank

  pub needed-count : length (needed net) ≡ length net.nodes
  needed-count = (outputs-kept net.outputs of_nodes).count ∙ (nodes-kept net.nodes blank).count ∙ blank-count

  pub needed-nodes : (i : ℕ) (n : Node) → slice_get net.nodes i ≡ Some n → Reads (λ k. k < length net.nodes) n
      → Needs (IsMarked (needed net)) n
  needed-nodes i n e h =
      needs-weaker (IsMarked of_nodes) (IsMarked (needed net)) (outputs-kept net.outputs of_nodes).marks n
      (nodes-marked net.nodes blank i n e
      (all_reads-weaker (λ k. k < length net.nodes) (λ k. k < length blank) (λ k l. omega (arith, l, blank-count)) n h))

  pub needed-outputs : All (λ o. o.from.node < length net.nodes) net.outputs
      → All (λ o. IsMarked (needed net) o.from.node) net.outputs
  needed-outputs h =
      outputs-marked net.outputs of_nodes
      (λ k d l. omega (arith, h k d l, (nodes-kept net.nodes blank).count, blank-count))
