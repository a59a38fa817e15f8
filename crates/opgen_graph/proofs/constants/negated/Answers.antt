use Rattle.std.proofs.Common.{◌≡◌, ℕ, length, refl, sym, ap, ◌∙◌, subst}
use Rattle.std.specs.Prelude.{IsTrue}
use Rattle.opgen_num.specs.WordLaws.{length-word}
use Rattle.opgen_num.specs.Words.{word}
use Rattle.opgen_design.specs.Plain.{plain}
use Rattle.opgen_design.specs.Tree.{Tree}
use Rattle.opgen_design.specs.Value.{IsWidth}
use Rattle.opgen_net.specs.declared.net.Net.{Net}
use Rattle.opgen_net.specs.declared.node.Node.TheVariants.{Constant}
use Rattle.opgen_net.specs.Valid.{widths, FitsNodes}
use Rattle.opgen_net.specs.Cells.{is_sum}
use Rattle.opgen_net.specs.Placed.{Placed, difference_of, with_last}
use Rattle.opgen_graph.proofs.Products.{negated-fits}
use Rattle.opgen_graph.proofs.constants.negated.Goals as goal

pub constant-requires-clause-width : goal.constant-requires-clause-width
constant-requires-clause-width c = subst IsWidth (sym (ap length c.new.ensures ∙ length-word c.args.width 0)) c.requires.width

pub cells-requires-clause-class : goal.cells-requires-clause-class
cells-requires-clause-class c = subst (λ e. IsTrue (is_sum e)) (sym c.in_ok-chain.ensures) refl

pub cells-requires-clause-fits : goal.cells-requires-clause-fits
cells-requires-clause-fits c =
    let a = c.args in
    let p : Placed = record { net = a.net.now; place = a.node } in
    let zeros = with_last p.net (Constant (word a.width 0)) in
    let to : c.constant.new.self ≡ zeros =
    c.in_ok-zeros.ensures.ok ∙ ap (λ w. with_last p.net (Constant w)) c.new.ensures in
    let tree : plain c.in_ok-chain.field-0 ≡ difference_of (length p.net.nodes) a.node =
    c.in_ok-chain.ensures ∙ ap (λ (k : ℕ). difference_of k a.node) c.in_ok-zeros.ensures.place in
    subst (λ (n : Net). FitsNodes (widths n.nodes) a.width (plain c.in_ok-chain.field-0)) (sym to)
    (subst (λ (e : Tree). FitsNodes (widths zeros.nodes) a.width e) (sym tree)
    (negated-fits a.width p c.requires.net c.requires.width c.requires.node))
