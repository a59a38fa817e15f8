use Rattle.std.proofs.Common.{take}
use Rattle.opgen_graph.proofs.PartLists.{ArePartsOf}
use Rattle.opgen_graph.proofs.part_nodes.parts_in_order.Given as goal

abbrev pub invariant-numbers : goal.invariant-numbers
invariant-numbers l = ArePartsOf l.found.items (take l.number-index l.numbers)
