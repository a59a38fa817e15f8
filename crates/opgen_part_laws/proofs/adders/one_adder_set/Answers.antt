use Rattle.opgen_part_laws.proofs.Building.{one_set}
use Rattle.opgen_part_laws.proofs.adders.one_adder_set.Goals as goal

pub returns : goal.returns
returns c = one_set
