use Rattle.opgen_laws.proofs.OneCircuit.{one_net}
use Rattle.opgen_laws.proofs.circuits.one_net.Goals as goal

pub returns : goal.returns
returns c = one_net (record { products = c.one_net_of_product.ensures; sums = c.one_net_of_sop.ensures; adders = c.one_adder_set.ensures; graphs = c.one_least_graph.ensures; rules = c.one_rule_graph.ensures })
