use Rattle.std.proofs.Common.{◌≡◌, ◌-◌, ◌≤◌, ◌*◌, ◌^◌, drop}
use Rattle.std.specs.Prelude.{◌+ℤ◌, unsigned_abs}
use Rattle.opgen_kinds.specs.Horner.{degree}
use Rattle.opgen_kinds.specs.Poly.{terms_from}
use Rattle.opgen_kinds.proofs.poly.poly_terms.Given as goal

abbrev pub invariant-coefs : goal.invariant-coefs
invariant-coefs l = record {
  value : (l.total +ℤ terms_from l.coef-index (drop l.coef-index l.poly.coefs) l.poly.input.width (degree l.poly) l.x)
      ≡ terms_from 0 l.poly.coefs l.poly.input.width (degree l.poly) l.x;
  power : l.power ≡ l.x ^ l.coef-index;
  places : l.places ≡ l.poly.input.width * (degree l.poly - l.coef-index);
  bound : unsigned_abs l.total ≤ l.coef-index * 2 ^ 94;
}
