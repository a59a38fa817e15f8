use Rattle.std.proofs.Common.{◌≡◌}
use Rattle.opgen_constdiv.specs.Recipe.{after}
use Rattle.opgen_constdiv.proofs.digits.divide_digits.Given as goal

abbrev pub invariant-digits : goal.invariant-digits
invariant-digits l =
    after l.fn.width l.fn.divisor l.k
    ≡ record { net = l.net; quotient = l.division.quotient; rest = l.division.rest; table = l.division.table }
