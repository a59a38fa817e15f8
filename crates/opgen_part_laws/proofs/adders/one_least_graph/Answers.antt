use Rattle.opgen_part_laws.proofs.Building.{one_least_graph}
use Rattle.opgen_part_laws.proofs.adders.one_least_graph.Goals as goal

pub returns : goal.returns
returns c = one_least_graph
