use Rattle.opgen_lanes.proofs.StreamRuns.{steps-are-runs}
use Rattle.opgen_part_laws.proofs.lanes.lane_steps_are_runs.Goals as goal

pub returns : goal.returns
returns c = steps-are-runs
