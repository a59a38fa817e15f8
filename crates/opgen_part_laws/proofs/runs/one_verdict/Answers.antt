use Rattle.opgen_check.proofs.Judging.{one_verdict}
use Rattle.opgen_part_laws.proofs.runs.one_verdict.Goals as goal

pub returns : goal.returns
returns c = one_verdict
