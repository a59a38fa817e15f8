use Rattle.std.proofs.Common.{length, ◌-◌, ◌≤◌}
use Rattle.opgen_lex.proofs.Cuts.{IsCutTo}
use Rattle.opgen_lex.proofs.fault_in.Given as goal

abbrev pub invariant-elements : goal.invariant-elements
invariant-elements l = record {
  cut : IsCutTo l.bytes l.at;
  within : l.at ≤ length l.bytes;
}

abbrev pub decreases-elements : goal.decreases-elements
decreases-elements l = length l.bytes - l.at
