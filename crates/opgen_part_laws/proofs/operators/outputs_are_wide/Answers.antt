use Rattle.opgen_operator.proofs.Specs.{outputs_wide}
use Rattle.opgen_part_laws.proofs.operators.outputs_are_wide.Goals as goal

pub returns : goal.returns
returns c = outputs_wide
