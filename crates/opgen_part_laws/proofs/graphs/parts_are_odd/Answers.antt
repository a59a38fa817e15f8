use Rattle.opgen_graph.proofs.TargetLists.{parts_product, part_odd}
use Rattle.opgen_part_laws.proofs.graphs.parts_are_odd.Goals as goal

pub returns : goal.returns
returns c = λ n some small. (parts_product n some small, part_odd n some small)
