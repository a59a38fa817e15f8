use Rattle.opgen_design.proofs.Enabled.{any-cycles}
use Rattle.opgen_design.proofs.laws.any_cycles_are_runs.Goals as goal

pub returns : goal.returns
returns c = any-cycles
