use Rattle.opgen_laws.proofs.Verdict.{has_verdict}
use Rattle.opgen_laws.proofs.designs.has_verdict.Goals as goal

pub returns : goal.returns
returns c = has_verdict
