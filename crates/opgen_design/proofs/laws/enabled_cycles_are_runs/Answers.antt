use Rattle.opgen_design.proofs.Enabled.{enabled-cycles}
use Rattle.opgen_design.proofs.laws.enabled_cycles_are_runs.Goals as goal

pub returns : goal.returns
returns c = enabled-cycles
