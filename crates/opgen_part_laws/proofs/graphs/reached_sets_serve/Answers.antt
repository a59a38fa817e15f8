use Rattle.opgen_graph.proofs.Serving.{reached_serve}
use Rattle.opgen_part_laws.proofs.graphs.reached_sets_serve.Goals as goal

pub returns : goal.returns
returns c = reached_serve
