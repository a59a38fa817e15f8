use Rattle.std.proofs.Common.{◌≡◌, ◌+◌, ◌*◌, ◌^◌, ◌≤◌, drop}
use Rattle.opgen_ports.specs.Reaches.{rises, falls}
use Rattle.opgen_ports.proofs.reach.sides.Given as goal

abbrev pub invariant-coefs : goal.invariant-coefs
invariant-coefs l = record {
  falls : l.below + falls (drop l.coef-index l.coefs) ≡ falls l.coefs;
  rises : l.above + rises (drop l.coef-index l.coefs) ≡ rises l.coefs;
  few_below : l.below ≤ l.coef-index * 2 ^ 30;
  few_above : l.above ≤ l.coef-index * 2 ^ 30;
}
