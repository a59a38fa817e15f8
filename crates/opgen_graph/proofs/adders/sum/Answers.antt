use Rattle.std.proofs.Common.{◌≡◌, ℕ, sym, ap, ◌∙◌, subst}
use Rattle.opgen_design.specs.Plain.{plain}
use Rattle.opgen_design.specs.Tree.{Tree}
use Rattle.opgen_net.specs.declared.net.Net.{Net}
use Rattle.std.specs.Prelude.{IsTrue}
use Rattle.opgen_net.specs.Cells.{is_sum}
use Rattle.opgen_net.specs.Valid.{widths, FitsNodes}
use Rattle.opgen_net.specs.Placed.{with_bits}
use Rattle.opgen_graph.specs.declared.multiples.Multiple.{Multiple}
use Rattle.opgen_graph.specs.Placing.{IsNode}
use Rattle.opgen_graph.specs.Recipe.{multiple_of, operand, added}
use Rattle.opgen_graph.proofs.Standing.{multiple_of-all}
use Rattle.opgen_graph.proofs.Sums.{added-sum, first, second, v-kept, node-fits}
use Rattle.opgen_graph.proofs.adders.sum.Goals as goal

pub operand-requires-clause-node : goal.operand-requires-clause-node
operand-requires-clause-node c =
    let a = c.args in
    subst (IsNode a.net.now) (sym c.multiple_of-u.ensures)
    (multiple_of-all (IsNode a.net.now) a.known.now a.adder.u c.requires.nodes c.requires.u)

pub operand-requires-2-clause-node : goal.operand-requires-2-clause-node
operand-requires-2-clause-node c =
    let a = c.args in
    let u = multiple_of a.known.now a.adder.u in
    let v = multiple_of a.known.now a.adder.v in
    let node_u = multiple_of-all (IsNode a.net.now) a.known.now a.adder.u c.requires.nodes c.requires.u in
    let node_v = multiple_of-all (IsNode a.net.now) a.known.now a.adder.v c.requires.nodes c.requires.v in
    let one = first a.signed a.width a.net.now a.adder u v c.requires.net c.requires.width node_u node_v in
    let to : c.operand.new.net ≡ one.net =
    c.in_ok-a.ensures.ok
    ∙ ap (λ (m : Multiple). (with_bits a.net.now (operand a.signed c.zeros_below.result a.width m)).net) c.multiple_of-u.ensures
    ∙ ap (λ (z : ℕ). (with_bits a.net.now (operand a.signed z a.width u)).net) c.zeros_below.ensures in
    subst (λ (m : Multiple). IsNode c.operand.new.net m) (sym c.multiple_of-v.ensures)
    (subst (λ (n : Net). IsNode n v) (sym to)
    (v-kept a.signed a.width a.net.now a.adder u v c.requires.net c.requires.width node_u node_v))

pub cells-requires-clause-fits : goal.cells-requires-clause-fits
cells-requires-clause-fits c =
    let a = c.args in
    let u = multiple_of a.known.now a.adder.u in
    let v = multiple_of a.known.now a.adder.v in
    let node_u = multiple_of-all (IsNode a.net.now) a.known.now a.adder.u c.requires.nodes c.requires.u in
    let node_v = multiple_of-all (IsNode a.net.now) a.known.now a.adder.v c.requires.nodes c.requires.v in
    let one = first a.signed a.width a.net.now a.adder u v c.requires.net c.requires.width node_u node_v in
    let two = second a.signed a.width a.net.now a.adder u v c.requires.net c.requires.width node_u node_v in
    let to_one : c.operand.new.net ≡ one.net =
    c.in_ok-a.ensures.ok
    ∙ ap (λ (m : Multiple). (with_bits a.net.now (operand a.signed c.zeros_below.result a.width m)).net) c.multiple_of-u.ensures
    ∙ ap (λ (z : ℕ). (with_bits a.net.now (operand a.signed z a.width u)).net) c.zeros_below.ensures in
    let at_one : c.in_ok-a.a ≡ one.place =
    c.in_ok-a.ensures.place
    ∙ ap (λ (m : Multiple). (with_bits a.net.now (operand a.signed c.zeros_below.result a.width m)).place) c.multiple_of-u.ensures
    ∙ ap (λ (z : ℕ). (with_bits a.net.now (operand a.signed z a.width u)).place) c.zeros_below.ensures in
    let to_two : c.operand-2.new.net ≡ two.net =
    c.in_ok-b.ensures.ok
    ∙ ap (λ (m : Multiple). (with_bits c.operand.new.net (operand a.signed 0 a.width m)).net) c.multiple_of-v.ensures
    ∙ ap (λ (n : Net). (with_bits n (operand a.signed 0 a.width v)).net) to_one in
    let at_two : c.in_ok-b.b ≡ two.place =
    c.in_ok-b.ensures.place
    ∙ ap (λ (m : Multiple). (with_bits c.operand.new.net (operand a.signed 0 a.width m)).place) c.multiple_of-v.ensures
    ∙ ap (λ (n : Net). (with_bits n (operand a.signed 0 a.width v)).place) to_one in
    let tree =
    c.in_ok-added.ensures
    ∙ ap (λ (k : ℕ). added a.adder.step.form a.adder.u a.adder.v k c.in_ok-b.b) at_one
    ∙ ap (λ (k : ℕ). added a.adder.step.form a.adder.u a.adder.v one.place k) at_two in
    subst (λ (n : Net). FitsNodes (widths n.nodes) a.width (plain c.in_ok-added.field-0)) (sym to_two)
    (subst (λ (e : Tree). FitsNodes (widths two.net.nodes) a.width e) (sym tree)
    (node-fits a.signed a.width a.net.now a.adder u v c.requires.net c.requires.width node_u node_v))

pub cells-requires-clause-class : goal.cells-requires-clause-class
cells-requires-clause-class c =
    let a = c.args.adder in
    subst (λ e. IsTrue (is_sum e)) (sym c.in_ok-added.ensures) (added-sum a.step.form a.u a.v c.in_ok-a.a c.in_ok-b.b)
