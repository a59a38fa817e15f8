use Rattle.opgen_part_laws.proofs.WholeCoefficients.{taps_least}
use Rattle.opgen_part_laws.proofs.operators.taps_are_least.Goals as goal

pub returns : goal.returns
returns c = taps_least
