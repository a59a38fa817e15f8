use Rattle.opgen_pipe.proofs.Counted.{follows-flow}
use Rattle.opgen_pipe.proofs.laws.run_follows_flow.Goals as goal

pub returns : goal.returns
returns c = follows-flow c.enabled_cycles_are_runs.ensures c.any_cycles_are_runs.ensures
