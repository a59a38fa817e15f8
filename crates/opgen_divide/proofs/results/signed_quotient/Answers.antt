use Rattle.std.proofs.Common.{◌≡◌, ℕ, ◌∷◌, sym, ap, ◌∙◌, subst, rules}
use Rattle.std.specs.Prelude.{All, slice_index}
use Rattle.opgen_design.specs.Tree.{Tree}
use Rattle.opgen_net.specs.declared.cell.Class.TheVariants.{Logic}
use Rattle.opgen_net.specs.declared.net.Net.{Net}
use Rattle.opgen_net.specs.declared.node.Node.TheVariants.{Cells}
use Rattle.opgen_net.specs.declared.word_bits.WordBit.TheVariants.{Zero}
use Rattle.opgen_net.specs.Cells.{IsLogic}
use Rattle.opgen_net.specs.Placed.{with_last}
use Rattle.opgen_net.specs.Valid.{widths}
use Rattle.opgen_net.specs.WordRule.{IsThere}
use Rattle.opgen_divide.specs.Recipe.{signs_differ}
use Rattle.opgen_divide.proofs.Finished.{differ-logic, q_there, q_sign}
use Rattle.opgen_divide.proofs.results.signed_quotient.Goals as goal

pub cells-requires-clause-class : goal.cells-requires-clause-class
cells-requires-clause-class c =
    let r = c.requires in
    subst (IsLogic (widths c.args.net.now.nodes)) (sym c.in_ok-signs_differ.ensures)
    (differ-logic c.args.pair.now c.args.net.now c.args.digits.now r.net r.inputs r.few r.there)

pub signed_bits-requires-clause-there : goal.signed_bits-requires-clause-there
signed_bits-requires-clause-there c =
    let p = c.args.pair.now in
    let r = c.requires in
    let net = c.args.net.now in
    let digits = c.args.digits.now in
    let bits : c.as_slice.result.now ≡ Zero ∷ digits = search rules in
    let one : c.cells.new.self ≡ with_last net (Cells Logic 1 (signs_differ p)) =
    c.in_ok-sign.ensures.ok ∙ ap (λ (e : Tree). with_last net (Cells Logic 1 e)) c.in_ok-signs_differ.ensures in
    subst (All (IsThere (widths c.cells.new.self.nodes))) (sym bits)
    (subst (λ (n : Net). All (IsThere (widths n.nodes)) (Zero ∷ digits)) (sym one) (q_there p net digits r.net r.inputs r.few r.there))

pub signed_bits-requires-clause-sign : goal.signed_bits-requires-clause-sign
signed_bits-requires-clause-sign c =
    let p = c.args.pair.now in
    let r = c.requires in
    let net = c.args.net.now in
    let signed = with_last net (Cells Logic 1 (signs_differ p)) in
    let one : c.cells.new.self ≡ signed =
    c.in_ok-sign.ensures.ok ∙ ap (λ (e : Tree). with_last net (Cells Logic 1 e)) c.in_ok-signs_differ.ensures in
    subst (λ (n : Net). slice_index (widths n.nodes) c.in_ok-sign.sign ≡ 1) (sym one)
    (subst (λ (k : ℕ). slice_index (widths signed.nodes) k ≡ 1) (sym c.in_ok-sign.ensures.place)
    (q_sign p net c.args.digits.now r.net r.inputs r.few r.there))
