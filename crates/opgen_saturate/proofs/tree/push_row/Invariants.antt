use Rattle.std.proofs.Common.{◌≡◌, ◌+◌, ◌≤◌}
use Rattle.std.specs.Prelude.{slice_index}
use Rattle.opgen_net.specs.Valid.{IsValid, widths}
use Rattle.opgen_saturate.specs.Recipe.{followed, with_row}
use Rattle.opgen_saturate.proofs.tree.push_row.Given as goal

-- the row over the bits that are left ends the whole row
abbrev pub invariant-row : goal.invariant-row
invariant-row l = record {
  valid : IsValid l.net;
  some : 1 ≤ l.left;
  there : l.from + l.left ≤ slice_index (widths l.net.nodes) l.node;
  same :
      with_row (followed l.both l.left) l.both l.node l.from l.left l.net
      ≡ with_row (followed l.both l.count) l.both l.node l.low l.count l.fn.net;
}

abbrev pub decreases-row : goal.decreases-row
decreases-row l = l.left
