use Rattle.std.proofs.Common.{◌≡◌, drop}
use Rattle.opgen_cuts.specs.Needed.{with_nodes, with_outputs}
use Rattle.opgen_cuts.proofs.needed.needed.Given as goal

abbrev pub invariant-nodes : goal.invariant-nodes
invariant-nodes l = with_nodes (drop l.node-index l.node-items) l.marks.items ≡ with_nodes l.node-items l.initial.marks.items

abbrev pub invariant-outputs : goal.invariant-outputs
invariant-outputs l = with_outputs (drop l.output-index l.output-items) l.marks.items ≡ with_outputs l.output-items l.initial.marks.items
