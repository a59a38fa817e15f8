use Rattle.std.proofs.Common.{◌≡◌, ◌≤◌, length}
use Rattle.opgen_fir.specs.Recipe.{taps_within, taps}
use Rattle.opgen_fir.proofs.taps.taps.Given as goal

abbrev pub invariant-zeros : goal.invariant-zeros
invariant-zeros l = record {
  value : taps_within l.count l.coefs ≡ taps l.coefs;
  few : l.count ≤ length l.coefs;
}

abbrev pub decreases-zeros : goal.decreases-zeros
decreases-zeros l = l.count
