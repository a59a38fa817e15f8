use Rattle.std.proofs.Common.{◌≡◌, ◌+◌, ◌<◌, ℕ, List, [], ◌∷◌, ◌++◌, length, drop, get_or, sym, ap, ◌∙◌, subst}
use Rattle.std.proofs.lemmas.List.{drop_all}
use Rattle.opgen_net.specs.declared.node.Node.{Node}
use Rattle.opgen_net.specs.Valid.{node_width, widths, widths_on, MayStand, AllMayStand}
use Rattle.opgen_pipe.proofs.Steps.{drop-item}
use Rattle.opgen_pipe.proofs.widths.node_widths.Goals as goal

-- a node may stand after those before it, and the rest after it
next-stand : (ws : List ℕ) (ns : List Node) (i : ℕ) (n : Node) → i < length ns → n ≡ get_or ns i n → AllMayStand ws (drop i ns)
    → MayStand ws n × AllMayStand (ws ++ node_width ws n ∷ []) (drop (i + 1) ns)
next-stand ws ns i n l e = subst (AllMayStand ws) (drop-item ns i n l e)

pub node_width-width-requires : goal.node_width-width-requires
node_width-width-requires c =
    let n = c.node-item.result in
    let both = next-stand c.nodes.widths.items c.as_slice-nodes.result.now c.nodes.node-index n c.nodes-test.true c.node-item.is
    c.nodes.invariant.stand in
    subst (λ ws. MayStand ws n) (sym c.deref.ensures.value) both.0

pub nodes-preserved : goal.nodes-preserved
nodes-preserved c =
    let ws = c.nodes.widths.items in
    let ns = c.as_slice-nodes.result.now in
    let i = c.nodes.node-index in
    let n = c.node-item.result in
    let rest = drop (i + 1) ns in
    let both = next-stand ws ns i n c.nodes-test.true c.node-item.is c.nodes.invariant.stand in
    let more = c.in_ok-push.ensures.items
    ∙ ap (λ w. ws ++ w ∷ []) (c.node_width-width.ensures ∙ ap (λ vs. node_width vs n) c.deref.ensures.value) in
    record {
      rest = ap (λ vs. widths_on vs rest) more ∙ sym (ap (widths_on ws) (drop-item ns i n c.nodes-test.true c.node-item.is))
          ∙ c.nodes.invariant.rest;
      stand = subst (λ vs. AllMayStand vs rest) (sym more) both.1;
    }

pub returns : goal.returns
returns c =
    sym (ap (widths_on c.nodes.widths.items) (drop_all c.nodes.node-index c.as_slice-nodes.result.now c.nodes-test.false))
    ∙ c.nodes.invariant.rest ∙ ap widths c.as_slice-nodes.ensures
