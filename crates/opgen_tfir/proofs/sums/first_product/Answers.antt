use Rattle.std.proofs.Common.{◌≡◌, ℕ, Bool, List, length, sym, ap, ◌∙◌, subst}
use Rattle.std.specs.Prelude.{All, slice_index}
use Rattle.opgen_num.specs.WordLaws.{length-word}
use Rattle.opgen_num.specs.Words.{word}
use Rattle.opgen_design.specs.Value.{IsWidth}
use Rattle.opgen_net.specs.declared.net.Net.{Net}
use Rattle.opgen_net.specs.declared.node.Node.TheVariants.{Constant}
use Rattle.opgen_net.specs.Placed.{with_last}
use Rattle.opgen_net.specs.Valid.{widths}
use Rattle.opgen_graph.specs.Placing.{IsNode}
use Rattle.opgen_tfir.specs.Recipe.{with_half}
use Rattle.opgen_tfir.proofs.Chains.{half-placed, half-nodes}
use Rattle.opgen_tfir.proofs.sums.first_product.Goals as goal

pub constant-requires-clause-width : goal.constant-requires-clause-width
constant-requires-clause-width c =
    subst IsWidth (sym (ap length c.new.ensures ∙ length-word c.args.width c.from.result)) c.requires.width

pub add_product-requires-clause-products : goal.add_product-requires-clause-products
add_product-requires-clause-products c =
    let a = c.args in
    let p = a.products.now in
    let to : c.constant.new.self ≡ (with_half p a.width a.net.now).net =
    c.in_ok-half.ensures.ok
    ∙ ap (λ (w : List Bool). with_last a.net.now (Constant w)) (c.new.ensures ∙ ap (word a.width) c.from.ensures) in
    record {
      widths = c.requires.products.widths;
      nodes = subst (λ (n : Net). All (IsNode n) p.parts) (sym to)
          (half-nodes p a.width c.requires.width a.net.now c.requires.net c.requires.products.nodes);
    }

pub add_product-requires-clause-node : goal.add_product-requires-clause-node
add_product-requires-clause-node c =
    let a = c.args in
    let p = a.products.now in
    let made = with_half p a.width a.net.now in
    let to : c.constant.new.self ≡ made.net =
    c.in_ok-half.ensures.ok
    ∙ ap (λ (w : List Bool). with_last a.net.now (Constant w)) (c.new.ensures ∙ ap (word a.width) c.from.ensures) in
    ap (λ (n : Net). slice_index (widths n.nodes) c.in_ok-half.half) to
    ∙ ap (λ (k : ℕ). slice_index (widths made.net.nodes) k) c.in_ok-half.ensures.place
    ∙ (half-placed p a.width c.requires.width a.net.now c.requires.net c.requires.products.nodes).width
