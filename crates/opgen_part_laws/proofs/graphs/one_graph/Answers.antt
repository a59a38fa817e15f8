use Rattle.opgen_part_laws.proofs.OneGraph.{one_graph}
use Rattle.opgen_part_laws.proofs.graphs.one_graph.Goals as goal

pub returns : goal.returns
returns c = one_graph
