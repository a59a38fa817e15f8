use Rattle.opgen_part_laws.proofs.OneSopNet.{one-net}
use Rattle.opgen_part_laws.proofs.nets.one_net_of_sop.Goals as goal

pub returns : goal.returns
returns c = one-net
