use Rattle.std.proofs.Common.{◌≡◌, ◌+◌, ◌<◌, ℕ, Bool, List, [], ◌∷◌, ◌++◌, length, drop, get_or, sym, ap, ◌∙◌, arith}
use Rattle.std.specs.Prelude.{slice_index}
use Rattle.std.proofs.lemmas.List.{append-nil, append_assoc, drop_all}
use Rattle.opgen_net.specs.declared.net.Net.{Net}
use Rattle.opgen_net.specs.declared.node.Node.{Node}
use Rattle.opgen_net.specs.Made.{each_node}
use Rattle.opgen_net.specs.Valid.{widths}
use Rattle.opgen_net.proofs.FlowLaws.{length-widths}
use Rattle.opgen_schedule.specs.Reads.{is_constant}
use Rattle.opgen_schedule.specs.Schedule.{Schedule}
use Rattle.opgen_schedule.specs.Stage.{slot_at}
use Rattle.opgen_pipe.specs.declared.standing.Standing.{Standing}
use Rattle.opgen_pipe.specs.Copies.{copies, signals_before}
use Rattle.opgen_pipe.specs.Standings.{standing_of}
use Rattle.opgen_pipe.proofs.Blocks.{before-next, before-within}
use Rattle.opgen_pipe.proofs.Steps.{drop-item}
use Rattle.opgen_pipe.proofs.standings.standings.Goals as goal

-- the value of a node more
each-more : {X : Type 0} (f : ℕ → Node → X) (ns : List Node) (i : ℕ) (n : Node) (now next : List X) (x : X) → i < length ns
    → n ≡ get_or ns i n → x ≡ f i n → next ≡ now ++ x ∷ []
    → next ++ each_node f (i + 1) (drop (i + 1) ns) ≡ now ++ each_node f i (drop i ns)
each-more f ns i n now next x l e is g =
    let rest = each_node f (i + 1) (drop (i + 1) ns) in
    ap (λ xs. xs ++ rest) (g ∙ ap (λ y. now ++ y ∷ []) is)
    ∙ append_assoc now (f i n ∷ []) rest
    ∙ ap (λ xs. now ++ each_node f i xs) (sym (drop-item ns i n l e))

-- the standing of a node from its parts
standing-from : (net : Net) (s : Schedule) (i : ℕ) (n : Node) (wide : ℕ) (fixed : Bool) (count first : ℕ)
    → wide ≡ slice_index (widths net.nodes) i → fixed ≡ is_constant n → count ≡ copies net s i → first ≡ signals_before (copies net s) i
    → record { width = wide; constant = fixed; slot = s i; copies = count; signal = first } ≡ standing_of net s i n
standing-from net s i n wide fixed count first e f g h =
    let made : ℕ → Bool → ℕ → ℕ → Standing = λ w b k x. record { width = w; constant = b; slot = s i; copies = k; signal = x } in
    ap (λ w. made w fixed count first) e
    ∙ ap (λ b. made (slice_index (widths net.nodes) i) b count first) f
    ∙ ap (λ k. made (slice_index (widths net.nodes) i) (is_constant n) k first) g
    ∙ ap (made (slice_index (widths net.nodes) i) (is_constant n) (copies net s i)) h

pub bounds-widths-place : goal.bounds-widths-place
bounds-widths-place c =
    let count = ap length c.requires.widths ∙ length-widths c.args.net.now.nodes in
    omega (arith, count, c.nodes-test.true, ap length c.as_slice-nodes.ensures)

pub overflow_add-next : goal.overflow_add-next
overflow_add-next c =
    let count = copies c.args.net.now (slot_at c.args.slots.now) in
    let l : c.nodes.place < length c.args.net.now.nodes = omega (arith, c.nodes-test.true, ap length c.as_slice-nodes.ensures) in
    omega (arith, before-within count c.nodes.place (length c.args.net.now.nodes) l, c.requires.few, c.nodes.invariant.next)

pub overflow_add-next-in-nodes : goal.overflow_add-next-in-nodes
overflow_add-next-in-nodes c =
    let count = copies c.args.net.now (slot_at c.args.slots.now) in
    let l : c.nodes.place < length c.args.net.now.nodes = omega (arith, c.nodes-test.true, ap length c.as_slice-nodes.ensures) in
    omega (
      arith,
      before-within count c.nodes.place (length c.args.net.now.nodes) l,
      c.requires.few,
      c.nodes.invariant.next,
      c.requires.copies.each c.nodes.place l,
    )

pub nodes-preserved : goal.nodes-preserved
nodes-preserved c =
    let net = c.args.net.now in
    let s = slot_at c.args.slots.now in
    let ns = c.as_slice-nodes.result.now in
    let i = c.nodes.place in
    let n = c.index-nodes-place.result in
    let l : i < length net.nodes = omega (arith, c.nodes-test.true, ap length c.as_slice-nodes.ensures) in
    let each = c.requires.copies.each i l in
    record {
      made =
          each-more (standing_of net s) ns i n c.nodes.standings.items _ _ c.nodes-test.true c.index-nodes-place.is
          (standing-from net s i n _ _ _ _ (ap (λ ws. slice_index ws i) c.requires.widths) c.is_constant.ensures each
          c.nodes.invariant.next)
          c.in_ok-push.ensures.items
          ∙ c.nodes.invariant.made;
      next = omega (arith, before-next (copies net s) i, c.nodes.invariant.next, each);
    }

pub returns : goal.returns
returns c =
    let items = c.nodes.standings.items in
    let i = c.nodes.place in
    sym (append-nil items)
    ∙ ap (λ ns. items ++ each_node (standing_of c.args.net.now (slot_at c.args.slots.now)) i ns)
    (sym (drop_all i c.as_slice-nodes.result.now c.nodes-test.false))
    ∙ c.nodes.invariant.made
