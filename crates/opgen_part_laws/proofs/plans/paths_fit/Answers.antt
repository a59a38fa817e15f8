use Rattle.opgen_schedule.proofs.Paths as law
use Rattle.opgen_part_laws.proofs.plans.paths_fit.Goals as goal

pub returns : goal.returns
returns c = law.paths_fit
