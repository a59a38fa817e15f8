use Rattle.opgen_operator.proofs.Accepted.{valid_accepted}
use Rattle.opgen_part_laws.proofs.operators.valid_are_accepted.Goals as goal

pub returns : goal.returns
returns c = valid_accepted
