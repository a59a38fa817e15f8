use Rattle.opgen_part_laws.proofs.OneProductNet.{one-net}
use Rattle.opgen_part_laws.proofs.nets.one_net_of_product.Goals as goal

pub returns : goal.returns
returns c = one-net
