use Rattle.opgen_operator.proofs.Specs.{exact_in128}
use Rattle.opgen_part_laws.proofs.operators.exact_values_are_in_128.Goals as goal

pub returns : goal.returns
returns c = exact_in128
