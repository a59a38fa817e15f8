use Rattle.opgen_operator.proofs.Specs.{limits_within}
use Rattle.opgen_part_laws.proofs.operators.limits_are_within.Goals as goal

pub returns : goal.returns
returns c = limits_within
