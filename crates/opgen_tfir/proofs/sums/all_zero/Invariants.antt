use Rattle.std.proofs.Common.{◌≡◌, drop}
use Rattle.opgen_tfir.specs.Recipe.{all_zero as all_zero_of}
use Rattle.opgen_tfir.proofs.sums.all_zero.Given as goal

abbrev pub invariant-taps : goal.invariant-taps
invariant-taps l = all_zero_of (drop l.tap-index l.taps) ≡ all_zero_of l.taps
