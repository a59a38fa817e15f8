use Rattle.opgen_pipe.proofs.Shapes.{design-shaped}
use Rattle.opgen_part_laws.proofs.plans.design_is_shaped.Goals as goal

pub returns : goal.returns
returns c = design-shaped
