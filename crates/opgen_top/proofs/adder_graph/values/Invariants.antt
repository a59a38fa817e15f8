use Rattle.std.proofs.Common.{◌≡◌, take}
use Rattle.opgen_graph.specs.Graphs.{values}
use Rattle.opgen_top.proofs.adder_graph.values.Given as goal

abbrev pub invariant-adders : goal.invariant-adders
invariant-adders l = l.found.items ≡ values (take l.adder-index l.adders)
