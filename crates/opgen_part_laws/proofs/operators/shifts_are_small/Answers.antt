use Rattle.opgen_operator.proofs.Specs.{shifts_small}
use Rattle.opgen_part_laws.proofs.operators.shifts_are_small.Goals as goal

pub returns : goal.returns
returns c = shifts_small
