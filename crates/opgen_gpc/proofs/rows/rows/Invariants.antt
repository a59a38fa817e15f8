use Rattle.std.proofs.Common.{◌≡◌}
use Rattle.opgen_gpc.specs.Recipe.{rows_below}
use Rattle.opgen_gpc.proofs.rows.rows.Given as goal

abbrev pub invariant-addresses : goal.invariant-addresses
invariant-addresses l = l.rows.items ≡ rows_below l.twice l.address
