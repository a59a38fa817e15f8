use Rattle.std.proofs.Common.{◌≡◌, [], drop}
use Rattle.std.specs.List.{fold}
use Rattle.opgen_schedule.specs.Graph.{with_operand}
use Rattle.opgen_schedule.proofs.graph.operands.Given as goal

abbrev pub invariant-reads : goal.invariant-reads
invariant-reads l = fold (with_operand l.nodes) l.found (drop l.read-index l.read-items) ≡ fold (with_operand l.nodes) [] l.read-items
