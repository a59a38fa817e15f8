use Rattle.std.proofs.Common.{◌≡◌, ◌+◌, ◌≤◌, drop}
use Rattle.opgen_kinds.specs.Sum.{terms}
use Rattle.opgen_kinds.proofs.sum.terms.Given as goal

abbrev pub invariant-coefs : goal.invariant-coefs
invariant-coefs l = record {
  value : l.count + terms (drop l.coef-index l.coefs) ≡ terms l.coefs;
  bound : l.count ≤ l.coef-index;
}
