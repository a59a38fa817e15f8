use Rattle.opgen_operator.proofs.Operators.{outputs_recall}
use Rattle.opgen_operator.proofs.laws.outputs_recall.Goals as goal

pub returns : goal.returns
returns c = outputs_recall
