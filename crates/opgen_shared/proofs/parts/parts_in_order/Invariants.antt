use Rattle.std.proofs.Common.{take}
use Rattle.opgen_graph.proofs.TargetLists.{Lists}
use Rattle.opgen_shared.proofs.parts.parts_in_order.Given as goal

abbrev pub invariant-numbers : goal.invariant-numbers
invariant-numbers l = Lists l.found.items (take l.number-index l.numbers)
