use Rattle.std.proofs.Common.{◌≡◌, ◌+◌, ◌≤◌, ◌*◌, ◌^◌, drop}
use Rattle.std.specs.Prelude.{◌+ℤ◌, unsigned_abs}
use Rattle.opgen_ports.specs.Ports.{recent_numbers, weighted, weighted_from, one_input}
use Rattle.opgen_ports.proofs.history.weighted.Given as goal

abbrev pub invariant-coefs : goal.invariant-coefs
invariant-coefs l = record {
  value : (l.total +ℤ weighted_from l.ago (drop l.coef-index l.coefs) (recent_numbers (one_input l.format) l.history 0))
      ≡ weighted l.coefs (recent_numbers (one_input l.format) l.history 0);
  place : l.ago ≡ l.coef-index;
  bound : unsigned_abs l.total ≤ l.coef-index * 2 ^ (l.format.width + 30);
}
