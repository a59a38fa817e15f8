use Rattle.std.proofs.Common.{◌≤◌, length, drop}
use Rattle.opgen_pieces.proofs.Passing.{AllPassed}
use Rattle.opgen_pieces.proofs.pieces.summed.Given as goal

-- the places below are passed on
abbrev pub invariant-passed : goal.invariant-passed
invariant-passed l = record {
  few : l.left ≤ length l.first;
  passed : AllPassed l.is_minus (drop l.left l.first) (drop l.left l.second);
}

abbrev pub decreases-passed : goal.decreases-passed
decreases-passed l = l.left
