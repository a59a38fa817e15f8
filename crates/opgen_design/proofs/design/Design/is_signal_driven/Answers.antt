use Rattle.opgen_design.specs.declared.design.Target.TheVariants.{Signal as signal}
use Rattle.opgen_design.proofs.SoundLaws.{driven-target}
use Rattle.opgen_design.proofs.design.Design.is_signal_driven.Goals as goal

pub returns : goal.returns
returns c =
    let t = driven-target c.args.self.now c.requires.declared c.args.firsts.now c.requires.firsts (signal c.args.place) c.requires.place in
    ((λ h. t.0 (c.is_driven.ensures.0 h)), (λ h. c.is_driven.ensures.1 (t.1 h)))
