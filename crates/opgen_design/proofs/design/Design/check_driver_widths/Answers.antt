use Rattle.std.proofs.Common.{ap, ◌∙◌}
use Rattle.opgen_design.specs.Rules.{fault_at}
use Rattle.opgen_design.specs.declared.sound.Rule.TheVariants.{Width}
use Rattle.opgen_design.proofs.SoundLaws.{driver-fault}
use Rattle.opgen_design.proofs.design.Design.check_driver_widths.Goals as goal

pub returns-clause-fault : goal.returns-clause-fault
returns-clause-fault c =
    let d = c.args.self.now in
    driver-fault d Width tt c.requires.ports c.requires.signals (c.wrong_driver.result) (c.wrong_driver.ensures) c.failing.result
    (c.failing.ensures ∙ ap (λ b. fault_at 3 b (c.wrong_driver.result)) c.before_drivers.ensures)
