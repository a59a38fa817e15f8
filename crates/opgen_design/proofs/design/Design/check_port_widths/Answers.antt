use Rattle.opgen_design.specs.declared.sound.Rule.TheVariants.{Width}
use Rattle.opgen_design.proofs.SoundLaws.{port-fault}
use Rattle.opgen_design.proofs.design.Design.check_port_widths.Goals as goal

pub returns-clause-fault : goal.returns-clause-fault
returns-clause-fault c =
    let d = c.args.self.now in
    port-fault d Width tt (c.wrong_port.result) (c.wrong_port.ensures) c.failing.result (c.failing.ensures)
