use Rattle.std.proofs.Common.{◌≡◌}
use Rattle.opgen_divide.specs.Recipe.{after}
use Rattle.opgen_divide.proofs.restoring.divide.Given as goal

abbrev pub invariant-steps : goal.invariant-steps
invariant-steps l = after l.pair l.k ≡ record { net = l.net; digits = l.digits.known; rest = l.digits.rest }
