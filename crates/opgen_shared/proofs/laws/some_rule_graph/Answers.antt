use Rattle.opgen_shared.proofs.Existence.{some_rule_graph}
use Rattle.opgen_shared.proofs.laws.some_rule_graph.Goals as goal

pub returns : goal.returns
returns c = some_rule_graph
