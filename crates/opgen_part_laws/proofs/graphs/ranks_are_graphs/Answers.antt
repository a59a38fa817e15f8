use Rattle.opgen_graph.proofs.Reaching.{ranks_are_graphs}
use Rattle.opgen_part_laws.proofs.graphs.ranks_are_graphs.Goals as goal

pub returns : goal.returns
returns c = ranks_are_graphs
