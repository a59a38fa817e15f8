use Rattle.opgen_laws.proofs.OneAnswer.{one_answer}
use Rattle.opgen_laws.proofs.answers.one_answer.Goals as goal

pub returns : goal.returns
returns c = one_answer (record { products = c.one_net_of_product.ensures; sums = c.one_net_of_sop.ensures; adders = c.one_adder_set.ensures; graphs = c.one_least_graph.ensures; rules = c.one_rule_graph.ensures })
