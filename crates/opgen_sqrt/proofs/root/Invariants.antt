use Rattle.std.proofs.Common.{◌≡◌}
use Rattle.opgen_sqrt.specs.Recipe.{after}
use Rattle.opgen_sqrt.proofs.root.Given as goal

abbrev pub invariant-steps : goal.invariant-steps
invariant-steps l = after l.single l.k ≡ record { net = l.net; digits = l.digits.known; rest = l.digits.rest }
