use Rattle.std.proofs.Common.{◌≡◌}
use Rattle.opgen_nonrestoring.specs.Recipe.{after}
use Rattle.opgen_nonrestoring.proofs.divide.Given as goal

abbrev pub invariant-steps : goal.invariant-steps
invariant-steps l =
    after l.numerator l.divisor l.fn.net l.k
    ≡ record { net = l.net; digits = l.division.known; before = l.division.before; last = l.division.last; sum = l.division.sum }
