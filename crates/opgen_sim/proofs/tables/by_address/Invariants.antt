use Rattle.std.proofs.Common.{◌≤◌, drop, length}
use Rattle.opgen_sim.specs.Tables.{HasRows}
use Rattle.opgen_sim.proofs.tables.by_address.Given as goal

abbrev pub invariant-loop-left : goal.invariant-loop-left
invariant-loop-left l = record {
  within : l.left ≤ length l.rows;
  words : HasRows (drop l.left l.rows) l.words;
}

abbrev pub decreases-loop-left : goal.decreases-loop-left
decreases-loop-left l = l.left
