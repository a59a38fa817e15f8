use Rattle.opgen_laws.proofs.GoodWorkloads.{workloads_good}
use Rattle.opgen_laws.proofs.answers.workloads_are_good.Goals as goal

pub returns : goal.returns
returns c = workloads_good c.circuits_serve.ensures
