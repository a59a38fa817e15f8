use Rattle.std.proofs.Common.{◌≡◌, ℕ, refl, sym, ap, ◌∙◌, subst}
use Rattle.std.specs.Prelude.{All, IsTrue, slice_index}
use Rattle.opgen_design.specs.Tree.{Tree}
use Rattle.opgen_net.specs.declared.cell.Class.TheVariants.{Wire}
use Rattle.opgen_net.specs.declared.net.Net.{Net}
use Rattle.opgen_net.specs.declared.node.Node.TheVariants.{Cells}
use Rattle.opgen_net.specs.Cells.{is_wire}
use Rattle.opgen_net.specs.Placed.{with_last}
use Rattle.opgen_net.specs.Valid.{widths}
use Rattle.opgen_net.specs.WordRule.{IsThere}
use Rattle.opgen_divide.specs.Sign.{sign_of}
use Rattle.opgen_divide.proofs.Finished.{r_there, r_sign}
use Rattle.opgen_divide.proofs.results.signed_remainder.Goals as goal

pub cells-requires-clause-class : goal.cells-requires-clause-class
cells-requires-clause-class c = subst (λ e. IsTrue (is_wire e)) (sym c.sign_of.ensures) refl

pub signed_bits-requires-clause-there : goal.signed_bits-requires-clause-there
signed_bits-requires-clause-there c =
    let p = c.args.pair.now in
    let r = c.requires in
    let net = c.args.net.now in
    let rest = c.args.rest.now in
    let one : c.cells.new.self ≡ with_last net (Cells Wire 1 (sign_of 0 p.a.width)) =
    c.in_ok-sign.ensures.ok ∙ ap (λ (e : Tree). with_last net (Cells Wire 1 e)) c.sign_of.ensures in
    subst (λ (n : Net). All (IsThere (widths n.nodes)) rest) (sym one) (r_there p net rest r.net r.inputs r.width r.there)

pub signed_bits-requires-clause-sign : goal.signed_bits-requires-clause-sign
signed_bits-requires-clause-sign c =
    let p = c.args.pair.now in
    let r = c.requires in
    let net = c.args.net.now in
    let signed = with_last net (Cells Wire 1 (sign_of 0 p.a.width)) in
    let one : c.cells.new.self ≡ signed =
    c.in_ok-sign.ensures.ok ∙ ap (λ (e : Tree). with_last net (Cells Wire 1 e)) c.sign_of.ensures in
    subst (λ (n : Net). slice_index (widths n.nodes) c.in_ok-sign.sign ≡ 1) (sym one)
    (subst (λ (k : ℕ). slice_index (widths signed.nodes) k ≡ 1) (sym c.in_ok-sign.ensures.place)
    (r_sign p net c.args.rest.now r.net r.inputs r.width r.there))
