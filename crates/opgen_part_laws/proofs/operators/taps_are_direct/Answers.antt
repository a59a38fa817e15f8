use Rattle.opgen_part_laws.proofs.WholeCoefficients.{taps_direct}
use Rattle.opgen_part_laws.proofs.operators.taps_are_direct.Goals as goal

pub returns : goal.returns
returns c = taps_direct
