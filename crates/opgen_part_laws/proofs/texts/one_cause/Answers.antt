use Rattle.opgen_part_laws.proofs.FirstCause.{one_cause, no_cause}
use Rattle.opgen_part_laws.proofs.texts.one_cause.Goals as goal

pub returns-clause-cause : goal.returns-clause-cause
returns-clause-cause c = one_cause

pub returns-clause-no_cause : goal.returns-clause-no_cause
returns-clause-no_cause c = no_cause
