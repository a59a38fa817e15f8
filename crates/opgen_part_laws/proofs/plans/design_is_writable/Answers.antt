use Rattle.opgen_pipe.proofs.Writable.{design-writable}
use Rattle.opgen_part_laws.proofs.plans.design_is_writable.Goals as goal

pub returns : goal.returns
returns c = design-writable
