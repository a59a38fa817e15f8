use Rattle.std.proofs.Common.{◌≡◌}
use Rattle.opgen_constdiv.specs.Rows.{rows_below}
use Rattle.opgen_constdiv.proofs.rows.rows.Given as goal

abbrev pub invariant-addresses : goal.invariant-addresses
invariant-addresses l = l.rows.items ≡ rows_below l.divisor l.address
