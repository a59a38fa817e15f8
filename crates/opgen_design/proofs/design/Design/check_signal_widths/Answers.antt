use Rattle.std.proofs.Common.{ap, ◌∙◌}
use Rattle.opgen_design.specs.Rules.{fault_at}
use Rattle.opgen_design.specs.declared.sound.Rule.TheVariants.{Width}
use Rattle.opgen_design.proofs.SoundLaws.{signal-fault}
use Rattle.opgen_design.proofs.design.Design.check_signal_widths.Goals as goal

pub returns-clause-fault : goal.returns-clause-fault
returns-clause-fault c =
    let d = c.args.self.now in
    signal-fault d Width tt c.requires.ports (c.wrong_signal.result) (c.wrong_signal.ensures) c.failing.result
    (c.failing.ensures ∙ ap (λ b. fault_at 3 b (c.wrong_signal.result)) c.len.ensures)
