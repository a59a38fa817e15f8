use Rattle.opgen_operator.proofs.Operators.{outputs_held}
use Rattle.opgen_operator.proofs.laws.outputs_hold.Goals as goal

pub returns : goal.returns
returns c = outputs_held
