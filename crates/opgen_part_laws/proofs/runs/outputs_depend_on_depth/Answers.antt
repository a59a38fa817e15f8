use Rattle.opgen_sim.proofs.OutputDepth.{outputs-depend}
use Rattle.opgen_part_laws.proofs.runs.outputs_depend_on_depth.Goals as goal

pub returns : goal.returns
returns c = outputs-depend
