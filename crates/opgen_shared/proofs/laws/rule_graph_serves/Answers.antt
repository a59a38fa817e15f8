use Rattle.opgen_shared.proofs.Serving.{rule_graph_serves}
use Rattle.opgen_shared.proofs.laws.rule_graph_serves.Goals as goal

pub returns : goal.returns
returns c = rule_graph_serves
