use Rattle.opgen_design.specs.Sound.{at_design}
use Rattle.opgen_design.proofs.EnableLaws.{within, first-unfit, never}
use Rattle.opgen_design.proofs.design.Design.bad_enable.Goals as goal

pub get-requires : goal.get-requires
get-requires c = within c.args.self.now c.in-Some.port c.in-Some.is (c.requires at_design)

pub returns-in-Some : goal.returns-in-Some
returns-in-Some c =
    first-unfit c.args.self.now c.in-Some.port c.in-Some.is c.get.result.now c.get.ensures
    (λ h. never c.is_for_enable.result c.if-not-is_for_enable.true (c.is_for_enable.ensures.1 h))
