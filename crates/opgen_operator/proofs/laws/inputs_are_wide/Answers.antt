use Rattle.opgen_operator.proofs.Specs.{inputs_wide}
use Rattle.opgen_operator.proofs.laws.inputs_are_wide.Goals as goal

pub returns : goal.returns
returns c = inputs_wide
