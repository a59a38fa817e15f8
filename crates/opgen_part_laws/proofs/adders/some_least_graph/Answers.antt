use Rattle.opgen_part_laws.proofs.SomeNet.{some_least_graph}
use Rattle.opgen_part_laws.proofs.adders.some_least_graph.Goals as goal

pub returns : goal.returns
returns c = some_least_graph
