use Rattle.opgen_runs.proofs.OneRun.{one-run}
use Rattle.opgen_part_laws.proofs.runs.one_run.Goals as goal

pub returns : goal.returns
returns c = one-run
