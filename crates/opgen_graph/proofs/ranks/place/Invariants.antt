use Rattle.std.proofs.Common.{◌≡◌, ◌++◌, take}
use Rattle.opgen_graph.specs.Graphs.{values}
use Rattle.opgen_graph.proofs.ranks.place.Given as goal

abbrev pub invariant-loop-adder : goal.invariant-loop-adder
invariant-loop-adder l = record {
  placed : l.placed.items ≡ l.fn.placed.items ++ values (take l.adder-index l.fresh);
  adders : l.adders.items ≡ l.fn.adders.items ++ take l.adder-index l.fresh;
}
