use Rattle.opgen_laws.proofs.Caused.{refusals_are_due}
use Rattle.opgen_laws.proofs.answers.refusals_are_due.Goals as goal

pub returns : goal.returns
returns c = refusals_are_due
