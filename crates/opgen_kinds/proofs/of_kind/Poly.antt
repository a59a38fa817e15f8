-- What holds of polynomials: they are within their limits.
use Rattle.std.proofs.Common.{◌*◌, ◌^◌, arith, subst}
use Rattle.std.proofs.lemmas.Int.{ints}
use Rattle.std.proofs.Math.Nat.{mul-le-mul}
use Rattle.std.specs.Prelude.{ℤ, pos, ◌*ℤ◌, unsigned_abs}
use Rattle.opgen_num.proofs.BitLength.{power_order}
use Rattle.opgen_kinds.specs.declared.poly.Poly.{Poly as Polynomial}
use Rattle.opgen_ports.specs.Ports.{HasWidth}
use Rattle.opgen_ports.specs.In128.{IsRatioIn128}
use Rattle.opgen_kinds.specs.Horner.{degree, result_places}
use Rattle.opgen_kinds.specs.Poly.{terms_from, exact_poly, IsPoly, poly_meaning, poly_acceptance}
use Rattle.opgen_ports.specs.Modes.{IsExactOrFaithful}
use Rattle.opgen_ports.specs.Good.{IsGoodRatio}
use Rattle.opgen_ports.specs.Limits.{most_signal}
use Rattle.opgen_ports.specs.Spans.{IsOf}
use Rattle.opgen_ports.proofs.Bounds.{products, few_units}
use Rattle.opgen_ports.proofs.In128.{small_in128, input_small}
use Rattle.opgen_ports.proofs.InputPorts.{all_one, input_bit, HasBit}
use Rattle.opgen_ports.proofs.Lawful.{IsLawful}
use Rattle.opgen_ports.proofs.Magnitudes.{unsigned_abs-product}
use Rattle.opgen_kinds.proofs.of_kind.Results.{poly_width}
use Rattle.opgen_kinds.proofs.of_kind.Terms.{poly_terms_small, few_powers, few_places}
use Rattle.opgen_ports.proofs.Versions.{signal_limit}

-- A polynomial: coefficients of 30 bits, five at most, and an input and a denominator of 64 bits by their powers, since its width
-- is 16 at most and its degree 4; there are 16 places after the point at most.
poly_in128 : (p : Polynomial) (x : ℤ) → IsPoly p → IsOf p.input x → IsRatioIn128 (exact_poly p x)
poly_in128 p x fits of =
    let terms = poly_terms_small p (unsigned_abs x) fits (input_small p.input x of) in
    let places = power_order (result_places p) 16 (few_places p fits) in
    let num = mul-le-mul {n₁ = unsigned_abs (terms_from 0 p.coefs p.input.width (degree p) (unsigned_abs x))} {m₁ = 2 ^ result_places p}
    {n₂ = 5 * 2 ^ 94} {m₂ = 2 ^ 16} terms places in
    let den = products (unsigned_abs p.den) (2 ^ (p.input.width * degree p)) 30 64 (few_units (2 ^ 30) p.den fits.positive fits.small)
    (power_order (p.input.width * degree p) 64 (few_powers p fits)) in (
      small_in128 (terms_from 0 p.coefs p.input.width (degree p) (unsigned_abs x) *ℤ pos (2 ^ result_places p))
          (omega (
            arith,
            num,
            unsigned_abs-product (terms_from 0 p.coefs p.input.width (degree p) (unsigned_abs x)) (pos (2 ^ result_places p)),
          )),
      small_in128 (p.den *ℤ pos (2 ^ (p.input.width * degree p)))
          (omega (arith, den, unsigned_abs-product p.den (pos (2 ^ (p.input.width * degree p))))),
    )

-- what holds of its meaning
pub poly_lawful : (p : Polynomial) → IsLawful (poly_meaning p) (poly_acceptance p)
poly_lawful p = record {
  some_input = λ is. omega arith;
  input_bits = λ is. all_one HasBit _ (input_bit p.input is.input);
  wide = λ version is.
      let (some, few) = poly_width p is.ranges in
      all_one (HasWidth (most_signal version)) _ (some, omega (arith, few, (signal_limit version).0));
  limit = λ version h. omega (arith, ints);
  least = λ h. omega (arith, ints);
  room = λ version within high. tt;
  held = tt;
  in128 = λ version is inputs of. poly_in128 p (inputs 0 0) is.ranges (of 0 0 (omega arith));
  recalls = λ mode inputs others outputs same good.
      subst (λ x. IsExactOrFaithful mode × IsGoodRatio mode (exact_poly p x) (outputs 0)) (same 0 0 (omega arith)) good;
}
