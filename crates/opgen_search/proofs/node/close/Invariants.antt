use Rattle.std.proofs.Common.{◌≡◌, length, IsPermutation}
use Rattle.opgen_search.specs.Nodes.{IsNode, members}
use Rattle.opgen_search.proofs.node.close.Given as goal

abbrev pub invariant-places : goal.invariant-places
invariant-places l = record {
  node : IsNode l.node.placed.items l.node.left.items;
  members : IsPermutation (members l.fn.node.placed.items l.fn.node.left.items) (members l.node.placed.items l.node.left.items);
  least : l.node.least ≡ l.fn.node.least;
}

abbrev pub decreases-places : goal.decreases-places
decreases-places l = length l.node.left.items
