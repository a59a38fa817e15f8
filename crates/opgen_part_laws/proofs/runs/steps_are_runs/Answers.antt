use Rattle.opgen_sim.proofs.Runs.{steps-are-runs}
use Rattle.opgen_part_laws.proofs.runs.steps_are_runs.Goals as goal

pub returns : goal.returns
returns c = steps-are-runs
