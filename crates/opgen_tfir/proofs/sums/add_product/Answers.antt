use Rattle.std.proofs.Common.{◌≡◌, ℕ, ap, ◌∙◌, rules}
use mir.Val.{of_z}
use mir.Syntax.{w64}
use Rattle.std.specs.Prelude.{pos, unsigned_abs, slice_index, Contains}
use Rattle.opgen_net.specs.declared.net.Net.{Net}
use Rattle.opgen_net.specs.Placed.{Placed}
use Rattle.opgen_net.specs.Valid.{widths}
use Rattle.opgen_ports.specs.OddParts.{odd_part}
use Rattle.opgen_graph.specs.Placing.{factors}
use Rattle.opgen_graph.specs.Recipe.{Multiples, with_magnitude}
use Rattle.opgen_graph.proofs.Products.{magnitude-placed}
use Rattle.opgen_tfir.proofs.Chains.{node-kept_width}
use Rattle.opgen_tfir.proofs.sums.add_product.Goals as goal

-- the product's node, and the net with it
pub joined-requires-clause-node : goal.joined-requires-clause-node
joined-requires-clause-node c =
    let a = c.args in
    let p = a.products.now in
    let b : Multiples = record { net = a.net.now; known = p.parts } in
    let d : Placed = record { net = a.net.now; place = a.node } in
    let n = unsigned_abs a.tap in
    let odd : Contains (factors b.known) (odd_part n) = c.requires.odd (λ (e : a.tap ≡ pos 0). c.if-tap-eq0.false (ap (of_z w64) e)) in
    let made = with_magnitude p.input.signed a.width b n in
    let answers = magnitude-placed p.input.signed b c.requires.net c.requires.products.nodes a.width c.requires.width n odd in
    let to : c.magnitude.new.net ≡ made.net = search rules in
    ap (λ (m : Net). slice_index (widths m.nodes) a.node) to
    ∙ node-kept_width p a.width c.requires.width d c.requires.net c.requires.node made answers

pub joined-requires-clause-product : goal.joined-requires-clause-product
joined-requires-clause-product c =
    let a = c.args in
    let p = a.products.now in
    let b : Multiples = record { net = a.net.now; known = p.parts } in
    let n = unsigned_abs a.tap in
    let odd : Contains (factors b.known) (odd_part n) = c.requires.odd (λ (e : a.tap ≡ pos 0). c.if-tap-eq0.false (ap (of_z w64) e)) in
    let made = with_magnitude p.input.signed a.width b n in
    let answers = magnitude-placed p.input.signed b c.requires.net c.requires.products.nodes a.width c.requires.width n odd in
    let to : c.magnitude.new.net ≡ made.net = search rules in
    let at : c.in_ok-product.product ≡ made.place = search rules in
    ap (λ (m : Net). slice_index (widths m.nodes) c.in_ok-product.product) to
    ∙ ap (λ (k : ℕ). slice_index (widths made.net.nodes) k) at
    ∙ answers.width
