use Rattle.opgen_shared.proofs.RuleLaws.{one_rule_graph}
use Rattle.opgen_shared.proofs.laws.one_rule_graph.Goals as goal

pub returns : goal.returns
returns c = one_rule_graph
