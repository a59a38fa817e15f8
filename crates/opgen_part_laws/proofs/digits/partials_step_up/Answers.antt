use Rattle.opgen_csd.proofs.StepUp.{partials_step_up}
use Rattle.opgen_part_laws.proofs.digits.partials_step_up.Goals as goal

pub returns : goal.returns
returns c = partials_step_up
