use Rattle.std.proofs.Common.{◌≡◌, ℕ, length, refl, sym, ap, ◌∙◌, subst}
use Rattle.std.specs.Prelude.{IsTrue, slice_index}
use Rattle.opgen_design.specs.Tree.{Tree}
use Rattle.opgen_net.specs.declared.cell.Class.TheVariants.{Wire}
use Rattle.opgen_net.specs.declared.net.Net.{Net}
use Rattle.opgen_net.specs.declared.node.Node.TheVariants.{Cells}
use Rattle.opgen_net.specs.Cells.{is_wire}
use Rattle.opgen_net.specs.Placed.{with_last}
use Rattle.opgen_net.specs.Valid.{FitsNodes, widths}
use Rattle.opgen_divide.specs.Sign.{with_highest, with_sign, with_absolute, HasAbsolute}
use Rattle.opgen_divide.proofs.Signed.{highest-fits, highest-width, still-wide, has_absolute}
use Rattle.opgen_divide.proofs.sign.absolute_of.Goals as goal

pub cells-requires-clause-fits : goal.cells-requires-clause-fits
cells-requires-clause-fits c =
    let net = c.args.net.now in
    subst (FitsNodes (widths net.nodes) 1) (sym c.sign_of.ensures)
    (highest-fits net c.args.node c.args.width c.requires.net c.requires.width c.requires.node)

pub cells-requires-clause-class : goal.cells-requires-clause-class
cells-requires-clause-class c = subst (λ e. IsTrue (is_wire e)) (sym c.sign_of.ensures) refl

pub with_sign-requires-clause-sign : goal.with_sign-requires-clause-sign
with_sign-requires-clause-sign c =
    let net = c.args.net.now in
    let one : c.cells.new.self ≡ with_highest c.args.node c.args.width net =
    c.in_ok-sign.ensures.ok ∙ ap (λ (e : Tree). with_last net (Cells Wire 1 e)) c.sign_of.ensures in
    subst (λ (n : Net). slice_index (widths n.nodes) c.in_ok-sign.sign ≡ 1) (sym one)
    (subst (λ (k : ℕ). slice_index (widths (with_highest c.args.node c.args.width net).nodes) k ≡ 1) (sym c.in_ok-sign.ensures.place)
    (highest-width net c.args.node c.args.width c.requires.net c.requires.width c.requires.node))

pub with_sign-requires-clause-node : goal.with_sign-requires-clause-node
with_sign-requires-clause-node c =
    let net = c.args.net.now in
    let one : c.cells.new.self ≡ with_highest c.args.node c.args.width net =
    c.in_ok-sign.ensures.ok ∙ ap (λ (e : Tree). with_last net (Cells Wire 1 e)) c.sign_of.ensures in
    subst (λ (n : Net). slice_index (widths n.nodes) c.args.node ≡ c.args.width) (sym one)
    (still-wide net c.args.node c.args.width c.requires.net c.requires.width c.requires.node)

pub returns-clause-number : goal.returns-clause-number
returns-clause-number c =
    let net = c.args.net.now in
    let node = c.args.node in
    let m = c.args.width in
    let made = with_absolute node m net in
    let one : c.cells.new.self ≡ with_highest node m net =
    c.in_ok-sign.ensures.ok ∙ ap (λ (e : Tree). with_last net (Cells Wire 1 e)) c.sign_of.ensures in
    let all : c.with_sign.new.net ≡ made.net =
    c.in_ok-place.ensures.ok
    ∙ ap (λ (k : ℕ). (with_sign k node m c.cells.new.self).net) c.in_ok-sign.ensures.place
    ∙ ap (λ (n : Net). (with_sign (length net.nodes) node m n).net) one in
    let place : c.in_ok-place.place ≡ made.place =
    c.in_ok-place.ensures.place
    ∙ ap (λ (k : ℕ). (with_sign k node m c.cells.new.self).place) c.in_ok-sign.ensures.place
    ∙ ap (λ (n : Net). (with_sign (length net.nodes) node m n).place) one in
    subst (λ (n : Net). HasAbsolute net node m n c.in_ok-place.place) (sym all)
    (subst (λ (p : ℕ). HasAbsolute net node m made.net p) (sym place)
    (has_absolute net node m c.requires.net c.requires.width c.requires.node))
