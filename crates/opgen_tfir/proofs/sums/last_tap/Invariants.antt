use Rattle.std.proofs.Common.{◌≡◌, ◌+◌, ◌<◌, length, drop, true}
use Rattle.opgen_tfir.specs.Recipe.{all_zero as all_zero_of}
use Rattle.opgen_tfir.proofs.sums.last_tap.Given as goal

abbrev pub invariant-zeros : goal.invariant-zeros
invariant-zeros l = record {
  within : l.last < length l.taps;
  zeros : all_zero_of (drop (l.last + 1) l.taps) ≡ true;
}

abbrev pub decreases-zeros : goal.decreases-zeros
decreases-zeros l = l.last
