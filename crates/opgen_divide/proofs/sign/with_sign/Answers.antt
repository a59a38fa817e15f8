use Rattle.std.proofs.Common.{ℕ, sym, subst}
use Rattle.opgen_net.specs.declared.net.Net.{Net}
use Rattle.opgen_net.specs.Flow.{KeepsFlow}
use Rattle.opgen_net.proofs.Grown.{grown-flow}
use Rattle.opgen_divide.specs.Sign.{with_sign, HasSign}
use Rattle.opgen_divide.proofs.Signed.{third-later, has_sign}
use Rattle.opgen_divide.proofs.sign.with_sign.Goals as goal

pub returns-clause-flow : goal.returns-clause-flow
returns-clause-flow c =
    let a = c.args in
    let r = c.requires in
    let net = a.net.now in
    let made = with_sign a.sign a.node a.width net in
    let later = third-later net a.sign a.node a.width r.net r.width r.sign r.node in
    subst (λ (n : Net). KeepsFlow net.nodes n.nodes) (sym c.in_ok-place.ensures.ok) (grown-flow net made.net later.grown)

pub returns-clause-number : goal.returns-clause-number
returns-clause-number c =
    let a = c.args in
    let r = c.requires in
    let net = a.net.now in
    let made = with_sign a.sign a.node a.width net in
    subst (λ (n : Net). HasSign net a.sign a.node a.width n c.in_ok-place.place) (sym c.in_ok-place.ensures.ok)
    (subst (λ (p : ℕ). HasSign net a.sign a.node a.width made.net p) (sym c.in_ok-place.ensures.place)
    (has_sign net a.sign a.node a.width r.net r.width r.sign r.node))
