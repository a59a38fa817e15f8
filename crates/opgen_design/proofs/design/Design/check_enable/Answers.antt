use Rattle.opgen_design.specs.declared.sound.Rule.TheVariants.{BadEnable}
use Rattle.opgen_design.proofs.SoundLaws.{port-fault}
use Rattle.opgen_design.proofs.design.Design.check_enable.Goals as goal

pub returns-clause-fault : goal.returns-clause-fault
returns-clause-fault c =
    let d = c.args.self.now in
    port-fault d BadEnable tt (c.bad_enable.result) (c.bad_enable.ensures) c.failing.result (c.failing.ensures)
