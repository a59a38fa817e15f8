use Rattle.std.proofs.Common.{ap, ◌∙◌}
use Rattle.std.specs.Prelude.{slice_get}
use Rattle.opgen_design.specs.Rules.{fault_at}
use Rattle.opgen_design.specs.declared.sound.Rule.TheVariants.{ReadsOutput}
use Rattle.opgen_design.proofs.SoundLaws.{driver-fault}
use Rattle.opgen_design.proofs.NameWalk.{unit-if}
use Rattle.opgen_design.proofs.design.Design.check_inputs.Goals as goal

pub returns-clause-fault : goal.returns-clause-fault
returns-clause-fault c =
    let d = c.args.self.now in
    driver-fault d ReadsOutput tt (λ i. unit-if (slice_get d.ports i)) (λ i. unit-if (slice_get d.signals i)) (c.in_ok-reads_output.field-0)
    (c.in_ok-reads_output.ensures) c.failing.result
    (c.failing.ensures ∙ ap (λ b. fault_at 7 b (c.in_ok-reads_output.field-0)) c.before_drivers.ensures)
