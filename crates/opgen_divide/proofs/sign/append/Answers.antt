use Rattle.std.proofs.Common.{◌≡◌, ℕ, ◌+◌, List, Bool, length, refl, sym, ap, ◌∙◌, subst}
use Rattle.std.specs.Prelude.{IsTrue}
use Rattle.opgen_num.specs.WordLaws.{length-word}
use Rattle.opgen_num.specs.Words.{word}
use Rattle.opgen_design.specs.declared.expr.Slice.{Slice}
use Rattle.opgen_design.specs.Plain.{plain}
use Rattle.opgen_design.specs.Tree.{Tree}
use Rattle.opgen_design.specs.Value.{IsWidth}
use Rattle.opgen_net.specs.declared.cell.Class.TheVariants.{Add}
use Rattle.opgen_net.specs.declared.net.Net.{Net}
use Rattle.opgen_net.specs.declared.node.Node.TheVariants.{Constant, Cells}
use Rattle.opgen_net.specs.Cells.{is_sum}
use Rattle.opgen_net.specs.Placed.{difference_of, whole, with_last}
use Rattle.opgen_net.specs.Valid.{FitsNodes, FitsChoice, widths}
use Rattle.opgen_divide.specs.Sign.{with_opposite}
use Rattle.opgen_divide.proofs.Signed.{opposite-fits, choice-fits, at_first}
use Rattle.opgen_divide.proofs.sign.append.Goals as goal

pub constant-requires-clause-width : goal.constant-requires-clause-width
constant-requires-clause-width c = subst IsWidth (sym (ap length c.new.ensures ∙ length-word c.args.width 0)) c.requires.width

pub cells-requires-clause-fits : goal.cells-requires-clause-fits
cells-requires-clause-fits c =
    let net = c.args.net.now in
    let m = c.args.width in
    let node = c.args.node in
    let zeros = with_last net (Constant (word m 0)) in
    let to : c.constant.new.self ≡ zeros =
    c.in_ok-zeros.ensures.ok ∙ ap (λ (w : List Bool). with_last net (Constant w)) c.new.ensures in
    let tree : plain c.in_ok-opposite.field-0 ≡ difference_of (length net.nodes) node =
    c.in_ok-opposite.ensures ∙ ap (λ (k : ℕ). difference_of k node) c.in_ok-zeros.ensures.place in
    subst (λ (n : Net). FitsNodes (widths n.nodes) m (plain c.in_ok-opposite.field-0)) (sym to)
    (subst (λ (e : Tree). FitsNodes (widths zeros.nodes) m e) (sym tree)
    (opposite-fits net c.args.sign node m c.requires.net c.requires.width c.requires.sign c.requires.node))

pub cells-requires-clause-class : goal.cells-requires-clause-class
cells-requires-clause-class c = subst (λ e. IsTrue (is_sum e)) (sym c.in_ok-opposite.ensures) refl

pub choice-requires-clause-fits : goal.choice-requires-clause-fits
choice-requires-clause-fits c =
    let net = c.args.net.now in
    let m = c.args.width in
    let sign = c.args.sign in
    let node = c.args.node in
    let n = length net.nodes in
    let zeros = with_last net (Constant (word m 0)) in
    let two = with_opposite node m net in
    let first : c.constant.new.self ≡ zeros =
    c.in_ok-zeros.ensures.ok ∙ ap (λ (w : List Bool). with_last net (Constant w)) c.new.ensures in
    let tree : plain c.in_ok-opposite.field-0 ≡ difference_of n node =
    c.in_ok-opposite.ensures ∙ ap (λ (k : ℕ). difference_of k node) c.in_ok-zeros.ensures.place in
    let second : c.cells.new.self ≡ two =
    c.in_ok-opposite-2.ensures.ok
    ∙ ap (λ (e : Tree). with_last c.constant.new.self (Cells Add m e)) tree
    ∙ ap (λ (o : Net). with_last o (Cells Add m (difference_of n node))) first in
    let place : c.in_ok-opposite-2.opposite ≡ n + 1 =
    c.in_ok-opposite-2.ensures.place
    ∙ ap (λ (o : Net). length o.nodes) first
    ∙ at_first net sign node m c.requires.net c.requires.width c.requires.sign c.requires.node in
    let yes : c.whole.result ≡ whole m (n + 1) = c.whole.ensures ∙ ap (whole m) place in
    let fits = choice-fits net sign node m c.requires.net c.requires.width c.requires.sign c.requires.node in
    subst (λ (s : Slice). FitsChoice (widths c.cells.new.self.nodes) sign c.whole.result s) (sym c.whole-2.ensures)
    (subst (λ (s : Slice). FitsChoice (widths c.cells.new.self.nodes) sign s (whole m node)) (sym yes)
    (subst (λ (o : Net). FitsChoice (widths o.nodes) sign (whole m (n + 1)) (whole m node)) (sym second) fits))
