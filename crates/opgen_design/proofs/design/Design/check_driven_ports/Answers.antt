use Rattle.opgen_design.specs.declared.sound.Rule.TheVariants.{NotDriven}
use Rattle.opgen_design.proofs.SoundLaws.{port-fault}
use Rattle.opgen_design.proofs.design.Design.check_driven_ports.Goals as goal

pub returns-clause-fault : goal.returns-clause-fault
returns-clause-fault c =
    let d = c.args.self.now in
    port-fault d NotDriven tt (c.undriven_port.result) (c.undriven_port.ensures) c.failing.result (c.failing.ensures)
