use Rattle.opgen_part_laws.proofs.Building.{one_net}
use Rattle.opgen_part_laws.proofs.adders.one_net_of_several.Goals as goal

pub returns : goal.returns
returns c = one_net
