use Rattle.std.proofs.Common.{◌≡◌, ◌≢◌, ℕ, ◌+◌, ◌-◌, ◌*◌, ◌<◌, ◌≤◌, ◌⊎◌, Bool, true, false, List, length, get_or, set, refl, sym, ap, ◌∙◌, subst, inl, inr, arith, Vec, Some, Result, Ok, Err, OnOk}
use Rattle.std.specs.Prelude.{Contains}
use Rattle.std.proofs.lemmas.Bool.{cases_eq}
use Rattle.std.proofs.lemmas.List.{get_or_read, length-set}
use Rattle.std.proofs.lemmas.List.Elements.{Contains-get_or}
use Rattle.std.proofs.lemmas.Option.{slice_get-get_or}
use Rattle.std.proofs.lemmas.Result.{on_ok_weaker}
use Rattle.opgen_components.specs.declared.walk.Walk.{Walk}
use Rattle.opgen_components.specs.Graph.{graph_of, links_of, IsGraph}
use Rattle.opgen_components.specs.Walk.{IsWalk, IsWalkOf, IsTop, KeepsMet, Follows, Finished, Closed, mark_of, link_at, left, work}
use Rattle.opgen_components.proofs.Steps.{length-graph, node-there, path-nodes, place-there, bounds-there, advanced, advanced-less, advanced-met, finished, finished-less, finished-met, closed, closed-less, closed-met}
use Rattle.opgen_components.proofs.walk.Walk.step.Goals as goal

-- a node that was read from the path
record IsNode {Z : Type 0} (vs : List (Vec ℕ Z)) (w : Walk) (o n : ℕ) : Type 0 where
  place : o < length w.path.items
  is : n ≡ get_or w.path.items o 0
  there : n < length vs
  next : n < length w.next.items

node-of : {Z : Type 0} (vs : List (Vec ℕ Z)) (w : Walk) → IsWalk (graph_of vs) w → (o : ℕ) → IsTop w.open_places.items o → (n : ℕ) → n
    ≡ get_or w.path.items o n → IsNode vs w o n
node-of vs w h o top n e =
    let place = place-there (graph_of vs) w h o top in
    let is : n ≡ get_or w.path.items o 0 = get_or_read w.path.items o n place e 0 in
    let there : n < length vs = omega (arith, is, node-there (graph_of vs) w h o place, length-graph vs) in
    record { place = place; is = is; there = there; next = omega (arith, there, h.next_length, length-graph vs) }

-- its links, and the number of them that were followed
record IsNext {Z : Type 0} (vs : List (Vec ℕ Z)) (w : Walk) (o n k : ℕ) (links : List ℕ) : Type 0 where
  same : links ≡ links_of (graph_of vs) (get_or w.path.items o 0)
  at : get_or w.next.items (get_or w.path.items o 0) 0 ≡ k

next-of : {Z : Type 0} (vs : List (Vec ℕ Z)) (w : Walk) (o n k : ℕ) (links : List ℕ) → IsNode vs w o n → k ≡ get_or w.next.items n k → links
    ≡ links_of (graph_of vs) n → IsNext vs w o n k links
next-of vs w o n k links h e f = record {
  same = f ∙ ap (links_of (graph_of vs)) h.is;
  at = ap (λ x. get_or w.next.items x 0) (sym h.is) ∙ sym (get_or_read w.next.items n k h.next e 0);
}

module _ {Z : Type 0} (vs : List (Vec ℕ Z)) (old now : Walk) (o n k : ℕ) (links : List ℕ) (graph : IsGraph (graph_of vs))
    (w : IsWalk (graph_of vs) old) (top : IsTop old.open_places.items o)
    (node : IsNode vs old o n) (next : IsNext vs old o n k links) where
  link-is : get_or links k 0 ≡ link_at (graph_of vs) (get_or old.path.items o 0) k
  link-is = ap (λ x. get_or x k 0) next.same

  link-there : k < length links → get_or links k 0 < length old.marks.items
  link-there l =
      let a = Contains-get_or links k 0 l in
      let b : Contains (links_of (graph_of vs) (get_or old.path.items o 0)) (get_or links k 0) = subst
      (λ x. Contains x (get_or links k 0)) next.same a in
      omega (arith, graph (get_or old.path.items o 0) (get_or links k 0) b, w.marks_length)

  module _ (more : k < length links) (follows : Follows (mark_of old.marks.items (get_or links k 0)) old (get_or links k 0) now) where
    more-links : k < length (links_of (graph_of vs) (get_or old.path.items o 0))
    more-links = subst (λ x. k < length x) next.same more

    follows-link : Follows (mark_of old.marks.items (link_at (graph_of vs) (get_or old.path.items o 0) k)) old
        (link_at (graph_of vs) (get_or old.path.items o 0) k) now
    follows-link = subst (λ x. Follows (mark_of old.marks.items x) old x now) link-is follows

    step-walk : IsWalkOf (graph_of vs) now.marks.items (set now.next.items n (k + 1)) now.path.items now.bounds.items now.open_places.items
        (length now.done.items)
    step-walk =
        subst (λ x. IsWalkOf (graph_of vs) now.marks.items
        (set now.next.items x (k + 1)) now.path.items now.bounds.items now.open_places.items (length now.done.items)) (sym node.is)
        (advanced (graph_of vs) old now graph w o k top next.at more-links follows-link)

    step-less : 2 * left (graph_of vs) (set now.next.items n (k + 1)) + length now.open_places.items < work (graph_of vs) old
    step-less =
        subst (λ x. 2 * left (graph_of vs) (set now.next.items x (k + 1)) + length now.open_places.items < work (graph_of vs) old)
        (sym node.is)
        (advanced-less (graph_of vs) old now graph w o k top next.at more-links follows-link)

    step-met : KeepsMet old now
    step-met = advanced-met (graph_of vs) old now graph w o k top next.at more-links follows-link

  module _ (ended : length links ≤ k) (is_cyclic : Bool)
      (turns : is_cyclic ≡ true → (o + 1 < length old.path.items) ⊎ Contains links (get_or old.path.items o 0))
      (ends : is_cyclic ≡ false → (length old.path.items ≡ o + 1) × (Contains links (get_or old.path.items o 0) → ⊥)) where
    ended-links : length (links_of (graph_of vs) (get_or old.path.items o 0)) ≤ get_or old.next.items (get_or old.path.items o 0) 0
    ended-links = omega (arith, ended, ap length next.same, next.at)

    record Left : Type 0 where
      walk : IsWalk (graph_of vs) now
      kept : KeepsMet old now
      less : work (graph_of vs) now < work (graph_of vs) old

    left-by : (slice_index_top : ℕ) → slice_index_top ≡ get_or old.bounds.items (length old.bounds.items - 1) 0
        → (slice_index_top ≡ o → Closed old o is_cyclic now) → (slice_index_top ≢ o → Finished old now) → Left
    left-by b e closes goes =
        let l : length old.bounds.items - 1 < length old.bounds.items = omega (arith, bounds-there (graph_of vs) old w o top) in
        let begin : IsTop old.bounds.items b = slice_get-get_or old.bounds.items (length old.bounds.items - 1) 0 l ∙ ap Some (sym e) in
        elim (cases_eq b o) [
          | inl f ↦
              let h : IsTop old.bounds.items o = begin ∙ ap Some f in
              let t : is_cyclic ≡ true → (o + 1 < length old.path.items) ⊎ Contains (links_of (graph_of vs) (get_or old.path.items o 0))
              (get_or old.path.items o 0) =
              λ q. elim (turns q) [ inl m ↦ inl m | inr m ↦ inr (subst (λ x. Contains x (get_or old.path.items o 0)) next.same m) ] in
              let u : is_cyclic ≡ false → (length old.path.items ≡ o + 1)
              × (Contains (links_of (graph_of vs) (get_or old.path.items o 0)) (get_or old.path.items o 0) → ⊥) =
              λ q. ((ends q).0, λ m. (ends q).1 (subst (λ x. Contains x (get_or old.path.items o 0)) (sym next.same) m)) in
              record {
                walk = closed (graph_of vs) old now w o top ended-links h is_cyclic (closes f) t u;
                kept = closed-met (graph_of vs) old now w o top ended-links h is_cyclic (closes f) t u;
                less = closed-less (graph_of vs) old now w o top ended-links h is_cyclic (closes f) t u;
              }
          | inr d ↦ record {
            walk = finished (graph_of vs) old now w o top ended-links b begin d (goes d);
            kept = finished-met (graph_of vs) old now w o top ended-links b begin d (goes d);
            less = finished-less (graph_of vs) old now w o top ended-links b begin d (goes d);
          }
        ]

    left-ok : {T E : Type 0} (r : Result T E) → (get_or old.bounds.items (length old.bounds.items - 1) 0 ≡ o
        → OnOk r (Closed old o is_cyclic now))
        → (get_or old.bounds.items (length old.bounds.items - 1) 0 ≢ o → OnOk r (Finished old now)) → OnOk r Left
    left-ok (Ok x) h k = left-by (get_or old.bounds.items (length old.bounds.items - 1) 0) refl h k
    left-ok (Err e) h k = tt

pub index-node-requires : goal.index-node-requires
index-node-requires c =
    omega (
      arith,
      place-there (graph_of c.args.graph.now) c.args.self.now c.requires.walk c.args.place c.requires.top,
      c.args.self.now.path.ok.0,
    )

pub index-at-requires : goal.index-at-requires
index-at-requires c =
    let n = node-of c.args.graph.now c.args.self.now c.requires.walk c.args.place c.requires.top c.index-node.result.now
    c.index-node.ensures in
    omega (arith, n.next, c.args.self.now.next.ok.0)

pub links_of-links-requires : goal.links_of-links-requires
links_of-links-requires c = (node-of c.args.graph.now c.args.self.now c.requires.walk c.args.place c.requires.top c.index-node.result.now
    c.index-node.ensures).there

pub is_cycle-cyclic-requires : goal.is_cycle-cyclic-requires
is_cycle-cyclic-requires c = place-there (graph_of c.args.graph.now) c.args.self.now c.requires.walk c.args.place c.requires.top

pub leave-requires-clause-bounds : goal.leave-requires-clause-bounds
leave-requires-clause-bounds c = bounds-there (graph_of c.args.graph.now) c.args.self.now c.requires.walk c.args.place c.requires.top

pub leave-requires-clause-within : goal.leave-requires-clause-within
leave-requires-clause-within c = omega (
  arith,
  place-there (graph_of c.args.graph.now) c.args.self.now c.requires.walk c.args.place
      c.requires.top,
)

pub leave-requires-clause-nodes : goal.leave-requires-clause-nodes
leave-requires-clause-nodes c = path-nodes (graph_of c.args.graph.now) c.args.self.now c.requires.walk

pub follow-requires-clause-there : goal.follow-requires-clause-there
follow-requires-clause-there c =
    let n = node-of c.args.graph.now c.args.self.now c.requires.walk c.args.place c.requires.top c.index-node.result.now
    c.index-node.ensures in
    let h = next-of c.args.graph.now c.args.self.now c.args.place c.index-node.result.now c.index-at.result.now c.links_of-links.result.now
    n c.index-at.ensures c.links_of-links.ensures in
    link-there c.args.graph.now c.args.self.now c.args.self.now c.args.place c.index-node.result.now c.index-at.result.now
    c.links_of-links.result.now c.requires.graph c.requires.walk c.requires.top n h c.if-at-links.true

pub index_mut-requires : goal.index_mut-requires
index_mut-requires c =
    let n = node-of c.args.graph.now c.args.self.now c.requires.walk c.args.place c.requires.top c.index-node.result.now
    c.index-node.ensures in
    let h = next-of c.args.graph.now c.args.self.now c.args.place c.index-node.result.now c.index-at.result.now c.links_of-links.result.now
    n c.index-at.ensures c.links_of-links.ensures in
    let w = step-walk c.args.graph.now c.args.self.now c.follow.new.self c.args.place c.index-node.result.now c.index-at.result.now
    c.links_of-links.result.now c.requires.graph c.requires.walk c.requires.top n h c.if-at-links.true (c.in_ok-follow.ensures) in
    omega (
      arith,
      n.there,
      w.next_length,
      length-graph c.args.graph.now,
      length-set c.follow.new.self.next.items c.index-node.result.now (c.index-at.result.now + 1),
      c.follow.new.self.next.ok.0,
    )

pub returns-in_ok-follow-clause-walk : goal.returns-in_ok-follow-clause-walk
returns-in_ok-follow-clause-walk c =
    let n = node-of c.args.graph.now c.args.self.now c.requires.walk c.args.place c.requires.top c.index-node.result.now
    c.index-node.ensures in
    let h = next-of c.args.graph.now c.args.self.now c.args.place c.index-node.result.now c.index-at.result.now c.links_of-links.result.now
    n c.index-at.ensures c.links_of-links.ensures in
    step-walk c.args.graph.now c.args.self.now c.follow.new.self c.args.place c.index-node.result.now c.index-at.result.now
    c.links_of-links.result.now c.requires.graph c.requires.walk c.requires.top n h c.if-at-links.true (c.in_ok-follow.ensures)

pub returns-in_ok-follow-clause-less : goal.returns-in_ok-follow-clause-less
returns-in_ok-follow-clause-less c =
    let n = node-of c.args.graph.now c.args.self.now c.requires.walk c.args.place c.requires.top c.index-node.result.now
    c.index-node.ensures in
    let h = next-of c.args.graph.now c.args.self.now c.args.place c.index-node.result.now c.index-at.result.now c.links_of-links.result.now
    n c.index-at.ensures c.links_of-links.ensures in
    step-less c.args.graph.now c.args.self.now c.follow.new.self c.args.place c.index-node.result.now c.index-at.result.now
    c.links_of-links.result.now c.requires.graph c.requires.walk c.requires.top n h c.if-at-links.true (c.in_ok-follow.ensures)

pub returns-in_ok-follow-clause-kept : goal.returns-in_ok-follow-clause-kept
returns-in_ok-follow-clause-kept c =
    let n = node-of c.args.graph.now c.args.self.now c.requires.walk c.args.place c.requires.top c.index-node.result.now
    c.index-node.ensures in
    let h = next-of c.args.graph.now c.args.self.now c.args.place c.index-node.result.now c.index-at.result.now c.links_of-links.result.now
    n c.index-at.ensures c.links_of-links.ensures in
    step-met c.args.graph.now c.args.self.now c.follow.new.self c.args.place c.index-node.result.now c.index-at.result.now
    c.links_of-links.result.now c.requires.graph c.requires.walk c.requires.top n h c.if-at-links.true (c.in_ok-follow.ensures)

pub returns-else-at-links-clause-walk : goal.returns-else-at-links-clause-walk
returns-else-at-links-clause-walk c =
    let n = node-of c.args.graph.now c.args.self.now c.requires.walk c.args.place c.requires.top c.index-node.result.now
    c.index-node.ensures in
    let h = next-of c.args.graph.now c.args.self.now c.args.place c.index-node.result.now c.index-at.result.now c.links_of-links.result.now
    n c.index-at.ensures c.links_of-links.ensures in
    let left = left-ok c.args.graph.now c.args.self.now c.leave.new.self c.args.place c.index-node.result.now c.index-at.result.now
    c.links_of-links.result.now c.requires.graph c.requires.walk c.requires.top n h
    c.if-at-links.false c.is_cycle-cyclic.result c.is_cycle-cyclic.ensures.turns c.is_cycle-cyclic.ensures.ends c.leave.result
    c.leave.ensures.closes c.leave.ensures.goes_on in
    on_ok_weaker c.leave.result (λ l. l.walk) left

pub returns-else-at-links-clause-kept : goal.returns-else-at-links-clause-kept
returns-else-at-links-clause-kept c =
    let n = node-of c.args.graph.now c.args.self.now c.requires.walk c.args.place c.requires.top c.index-node.result.now
    c.index-node.ensures in
    let h = next-of c.args.graph.now c.args.self.now c.args.place c.index-node.result.now c.index-at.result.now c.links_of-links.result.now
    n c.index-at.ensures c.links_of-links.ensures in
    let left = left-ok c.args.graph.now c.args.self.now c.leave.new.self c.args.place c.index-node.result.now c.index-at.result.now
    c.links_of-links.result.now c.requires.graph c.requires.walk c.requires.top n h
    c.if-at-links.false c.is_cycle-cyclic.result c.is_cycle-cyclic.ensures.turns c.is_cycle-cyclic.ensures.ends c.leave.result
    c.leave.ensures.closes c.leave.ensures.goes_on in
    on_ok_weaker c.leave.result (λ l. l.kept) left

pub returns-else-at-links-clause-less : goal.returns-else-at-links-clause-less
returns-else-at-links-clause-less c =
    let n = node-of c.args.graph.now c.args.self.now c.requires.walk c.args.place c.requires.top c.index-node.result.now
    c.index-node.ensures in
    let h = next-of c.args.graph.now c.args.self.now c.args.place c.index-node.result.now c.index-at.result.now c.links_of-links.result.now
    n c.index-at.ensures c.links_of-links.ensures in
    let left = left-ok c.args.graph.now c.args.self.now c.leave.new.self c.args.place c.index-node.result.now c.index-at.result.now
    c.links_of-links.result.now c.requires.graph c.requires.walk c.requires.top n h
    c.if-at-links.false c.is_cycle-cyclic.result c.is_cycle-cyclic.ensures.turns c.is_cycle-cyclic.ensures.ends c.leave.result
    c.leave.ensures.closes c.leave.ensures.goes_on in
    on_ok_weaker c.leave.result (λ l. l.less) left
