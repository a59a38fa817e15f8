use Rattle.std.proofs.Common.{◌≡◌, ◌++◌}
use Rattle.opgen_workload.specs.Filter.{coefficients}
use Rattle.opgen_workload.proofs.filter.coefficients.Given as goal

abbrev pub invariant-taps : goal.invariant-taps
invariant-taps l = coefficients l.fn.taps l.fn.seed ≡ l.coefs ++ coefficients l.left l.state

abbrev pub decreases-taps : goal.decreases-taps
decreases-taps l = l.left
