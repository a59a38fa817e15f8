use Rattle.std.proofs.Common.{◌≡◌, ◌≤◌}
use Rattle.opgen_kcm.specs.Entries.{zeros_within, zeros_of}
use Rattle.opgen_kcm.proofs.table.zeros_of.Given as goal

abbrev pub invariant-zeros : goal.invariant-zeros
invariant-zeros l = record {
  value : zeros_within l.zeros l.numbers ≡ zeros_of l.numbers;
  few : l.zeros ≤ 127;
}

abbrev pub decreases-zeros : goal.decreases-zeros
decreases-zeros l = l.zeros
