use Rattle.std.proofs.Common.{◌<◌, length, get_or, ap, sym, ◌∙◌, subst}
use Rattle.opgen_design.specs.Tree.{name}
use Rattle.opgen_machine.specs.Layout.{spots_of}
use Rattle.opgen_machine.specs.Programs.{Spots}
use Rattle.opgen_machine.specs.Emit.{Emitted}
use Rattle.opgen_machine.proofs.Emitted.{at-spots, spot-there, emitted-name}
use Rattle.opgen_machine.proofs.expression.name.Goals as goal

pub spot_at-requires : goal.spot_at-requires
spot_at-requires c =
    let a = at-spots c.args.spots.now.signals.items c.args.node c.requires.fits in
    subst (λ ss. c.args.node < length ss) (sym c.deref.ensures.value) (spot-there c.args.spots.now.signals.items c.args.node a.0 a.2)

pub returns : goal.returns
returns c =
    let spots : Spots = spots_of c.args.spots.now in
    let steps = c.args.steps.now.items in
    let is = c.spot_at.ensures ∙ ap (λ ss. get_or ss c.args.node (record { place = 0; width = 0 })) c.deref.ensures.value in
    subst (Emitted c.args.base spots (name c.args.node) steps steps) (sym is)
    (emitted-name c.args.base spots steps c.requires.fine c.requires.spots c.args.node c.requires.fits)
