use Rattle.std.proofs.Common.{ap, ◌∙◌}
use Rattle.std.specs.Prelude.{slice_get}
use Rattle.opgen_design.specs.Rules.{fault_at}
use Rattle.opgen_design.specs.declared.sound.Rule.TheVariants.{Undeclared}
use Rattle.opgen_design.proofs.SoundLaws.{driver-fault}
use Rattle.opgen_design.proofs.NameWalk.{unit-if}
use Rattle.opgen_design.proofs.design.Design.check_driver_names.Goals as goal

pub returns-clause-fault : goal.returns-clause-fault
returns-clause-fault c =
    let d = c.args.self.now in
    driver-fault d Undeclared c.requires.enable (λ i. unit-if (slice_get d.ports i)) (λ i. unit-if (slice_get d.signals i))
    (c.in_ok-undeclared.field-0) (c.in_ok-undeclared.ensures) c.failing.result
    (c.failing.ensures ∙ ap (λ b. fault_at 1 b (c.in_ok-undeclared.field-0)) c.before_drivers.ensures)
