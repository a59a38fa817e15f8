use Rattle.std.proofs.Common.{ap, ◌∙◌}
use Rattle.std.specs.Prelude.{slice_get}
use Rattle.opgen_design.specs.Rules.{fault_at}
use Rattle.opgen_design.specs.declared.sound.Rule.TheVariants.{NoInitial}
use Rattle.opgen_design.proofs.SoundLaws.{signal-fault}
use Rattle.opgen_design.proofs.NameWalk.{unit-if}
use Rattle.opgen_design.proofs.design.Design.check_initials.Goals as goal

pub returns-clause-fault : goal.returns-clause-fault
returns-clause-fault c =
    let d = c.args.self.now in
    signal-fault d NoInitial tt (λ i. unit-if (slice_get d.ports i)) (c.no_initial.result) (c.no_initial.ensures) c.failing.result
    (c.failing.ensures ∙ ap (λ b. fault_at 8 b (c.no_initial.result)) c.len.ensures)
