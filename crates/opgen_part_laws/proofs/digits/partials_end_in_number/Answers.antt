use Rattle.opgen_csd.proofs.StepUp.{partials_end}
use Rattle.opgen_part_laws.proofs.digits.partials_end_in_number.Goals as goal

pub returns : goal.returns
returns c = partials_end
