use Rattle.opgen_net.proofs.Grown.{grown_nets_keep}
use Rattle.opgen_part_laws.proofs.nets.grown_nets_keep_nodes.Goals as goal

pub returns : goal.returns
returns c = grown_nets_keep
