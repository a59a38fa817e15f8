use Rattle.std.proofs.Common.{ℕ, sym, subst}
use Rattle.opgen_num.specs.declared.mode.Overflow.TheVariants.{Saturate}
use Rattle.opgen_net.specs.declared.net.Net.{Net}
use Rattle.opgen_net.specs.Flow.{KeepsFlow}
use Rattle.opgen_net.proofs.Grown.{grown-flow}
use Rattle.opgen_saturate.specs.Recipe.{with_saturated}
use Rattle.opgen_saturate.specs.Converts.{Converts}
use Rattle.opgen_saturate.proofs.Whole.{all_made}
use Rattle.opgen_saturate.proofs.step.saturate.Goals as goal

pub returns-clause-flow : goal.returns-clause-flow
returns-clause-flow c =
    let net = c.args.net.now in
    let made = with_saturated c.args.node c.args.format c.args.to net in
    let all = all_made Saturate net c.args.node c.args.format c.args.to c.requires.net c.requires.formats in
    subst (λ (n : Net). KeepsFlow net.nodes n.nodes) (sym c.in_ok-place.ensures.ok) (grown-flow net made.net all.later.grown)

pub returns-clause-saturates : goal.returns-clause-saturates
returns-clause-saturates c =
    let net = c.args.net.now in
    let made = with_saturated c.args.node c.args.format c.args.to net in
    let all = all_made Saturate net c.args.node c.args.format c.args.to c.requires.net c.requires.formats in
    subst (λ (n : Net). Converts Saturate net c.args.node c.args.format c.args.to n c.in_ok-place.place) (sym c.in_ok-place.ensures.ok)
    (subst (λ (p : ℕ). Converts Saturate net c.args.node c.args.format c.args.to made.net p) (sym c.in_ok-place.ensures.place) all.converts)
