use Rattle.opgen_laws.proofs.Caused.{answers_have_causes}
use Rattle.opgen_laws.proofs.answers.answers_have_causes.Goals as goal

pub returns : goal.returns
returns c = answers_have_causes
