use Rattle.std.proofs.Common.{◌≡◌}
use Rattle.opgen_poly.specs.Recipe.{after}
use Rattle.opgen_poly.proofs.steps.partials.Given as goal

abbrev pub invariant-places : goal.invariant-places
invariant-places l = l.partial ≡ after l.poly l.k
