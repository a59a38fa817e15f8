use Rattle.opgen_part_laws.proofs.SomeNet.{several_net}
use Rattle.opgen_part_laws.proofs.adders.some_net_of_several.Goals as goal

pub returns : goal.returns
returns c = several_net
