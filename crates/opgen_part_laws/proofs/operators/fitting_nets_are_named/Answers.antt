use Rattle.opgen_operator.proofs.PortNames.{fitting_named}
use Rattle.opgen_part_laws.proofs.operators.fitting_nets_are_named.Goals as goal

pub returns : goal.returns
returns c = fitting_named
