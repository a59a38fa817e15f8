use Rattle.std.proofs.Common.{◌≡◌, ℕ, ◌+◌, ◌<◌, List, [], ◌∷◌, ◌++◌, length, map, take, get_or, sym, ap, ◌∙◌, arith}
use Rattle.std.proofs.lemmas.List.{take_more, length-map, map-append}
use Rattle.opgen_net.specs.declared.net.Net.{Net}
use Rattle.opgen_net.specs.declared.node.Node.TheVariants.{Input}
use Rattle.opgen_ports.specs.declared.ports.PortFormat.{PortFormat}
use Rattle.opgen_sop.specs.Recipe.{input_nodes}
use Rattle.opgen_sop.proofs.InputNodes.{nodes-more}
use Rattle.opgen_sop.proofs.inputs.input_net.Goals as goal

abbrev name_and_width : PortFormat → List ℕ × ℕ
name_and_width p = (p.name, p.format.width)

abbrev net_of : List PortFormat → Net
net_of ps = record { inputs = map name_and_width ps; nodes = input_nodes 0 ps; outputs = [] }

abbrev with_port : (name : List ℕ) (width : ℕ) → Net → Net
with_port name width n = record n {
  inputs = n.inputs ++ (name, width) ∷ [];
  nodes = n.nodes ++ Input (length n.inputs) width ∷ [];
}

port-more : (ps : List PortFormat) (p : PortFormat) → with_port p.name p.format.width (net_of ps) ≡ net_of (ps ++ p ∷ [])
port-more ps p =
    let count : length (map name_and_width ps) ≡ 0 + length ps = omega (arith, length-map ps name_and_width) in
    ap (λ is. record { inputs = is; nodes = input_nodes 0 ps ++ Input (length (map name_and_width ps)) p.format.width ∷ []; outputs = [] })
    (sym (map-append name_and_width ps (p ∷ [])))
    ∙ ap (λ k. record { inputs = map name_and_width (ps ++ p ∷ []); nodes = input_nodes 0 ps ++ Input k p.format.width ∷ []; outputs = [] }) count
    ∙ ap (λ ns. record { inputs = map name_and_width (ps ++ p ∷ []); nodes = ns; outputs = [] }) (sym (nodes-more 0 ps p))

pub inputs-preserved : goal.inputs-preserved
inputs-preserved c =
    let ps = c.args.sop.now.inputs in
    let k = c.inputs.port-index in
    let p = c.port-item.result in
    let items : c.as_slice-port-items.result.now ≡ ps = c.as_slice-port-items.ensures in
    let within : k < length ps = omega (arith, c.inputs-test.true, ap length items) in
    let is : p ≡ get_or ps k p = c.port-item.is ∙ ap (λ l. get_or l k p) items in
    let more : take k ps ++ p ∷ [] ≡ take (k + 1) ps = ap (λ q. take k ps ++ q ∷ []) is ∙ sym (take_more ps k p within) in
    record {
      made = c.in_ok-_input.ensures.ok
          ∙ ap (λ name. with_port name p.format.width c.inputs.net) c.as_str.ensures
          ∙ ap (with_port p.name p.format.width) c.inputs.invariant.made
          ∙ port-more (take k ps) p
          ∙ ap net_of more;
      valid = c.in_ok-_input.ensures.valid;
    }
