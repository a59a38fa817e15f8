use Rattle.std.proofs.Common.{◌≡◌, ◌-◌, ◌<◌, length}
use Rattle.opgen_net.specs.Valid.{IsValid, widths}
use Rattle.opgen_saturate.specs.Recipe.{joins, with_joins}
use Rattle.opgen_saturate.specs.Converts.{AreBits}
use Rattle.opgen_saturate.proofs.tree.push_joins.Given as goal

-- the cells that join what is left end the whole tree
abbrev pub invariant-joins : goal.invariant-joins
invariant-joins l = record {
  valid : IsValid l.net;
  some : l.next < length l.net.nodes;
  bits : AreBits (widths l.net.nodes) l.next;
  same :
      with_joins (joins (length l.net.nodes - l.next)) l.next l.net
      ≡ with_joins (joins (length l.fn.net.nodes - l.first)) l.first l.fn.net;
}

abbrev pub decreases-joins : goal.decreases-joins
decreases-joins l = length l.net.nodes - l.next
