use Rattle.opgen_part_laws.proofs.WholeCoefficients.{multiples_least}
use Rattle.opgen_part_laws.proofs.operators.multiples_are_least.Goals as goal

pub returns : goal.returns
returns c = multiples_least
