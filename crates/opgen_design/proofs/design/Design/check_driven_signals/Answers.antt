use Rattle.std.proofs.Common.{ap, ◌∙◌}
use Rattle.opgen_design.specs.Rules.{fault_at}
use Rattle.opgen_design.specs.declared.sound.Rule.TheVariants.{NotDriven}
use Rattle.opgen_design.proofs.SoundLaws.{signal-fault}
use Rattle.opgen_design.proofs.design.Design.check_driven_signals.Goals as goal

pub returns-clause-fault : goal.returns-clause-fault
returns-clause-fault c =
    let d = c.args.self.now in
    signal-fault d NotDriven tt c.requires.ports (c.undriven_signal.result) (c.undriven_signal.ensures) c.failing.result
    (c.failing.ensures ∙ ap (λ b. fault_at 5 b (c.undriven_signal.result)) c.len.ensures)
