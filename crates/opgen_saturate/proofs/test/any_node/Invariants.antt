use Rattle.std.proofs.Common.{◌≡◌, ◌++◌, ◌≤◌, map}
use Rattle.opgen_design.specs.Plain.{plain}
use Rattle.opgen_saturate.specs.Recipe.{node_list}
use Rattle.opgen_saturate.proofs.test.any_node.Given as goal

-- the nodes that are left come last
abbrev pub invariant-nodes : goal.invariant-nodes
invariant-nodes l = record {
  nodes : map plain l.found.items ++ node_list l.first l.left ≡ node_list l.first l.count;
  few : l.left ≤ l.count;
}

abbrev pub decreases-nodes : goal.decreases-nodes
decreases-nodes l = l.left
