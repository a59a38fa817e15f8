-- Polynomials of an unsigned input below 1.
use Rattle.std.specs.Prelude.{ℕ, ◌≡◌, ◌≢◌, ◌≤◌, ◌≤ℤ◌, IsTrue, false, All, Some, None, ◌+◌, ◌*◌, ◌^◌, ℤ, pos, neg_ℤ, unsigned_abs, length, drop, ◌-◌, List, [], ◌∷◌, ◌+ℤ◌, ◌*ℤ◌, negsuc, codes}
use Rattle.opgen_num.specs.declared.limits.TheConstants.{MAX_DENOMINATOR, MAX_NUMERATOR}
use Rattle.opgen_num.specs.declared.format.Format.{Format}
use Rattle.opgen_num.specs.declared.format.Ratio.{Ratio}
use Rattle.opgen_num.specs.Formats.{range_width, is_negative}
use Rattle.opgen_kinds.specs.declared.poly.Poly.{Poly as Polynomial}
use Rattle.opgen_ports.specs.Acceptance.{Acceptance}
use Rattle.opgen_ports.specs.Accepted.{IsAcceptable}
use Rattle.opgen_ports.specs.Good.{IsGoodRatio}
use Rattle.opgen_ports.specs.In128.{IsRatioIn128}
use Rattle.opgen_kinds.specs.Horner.{degree, result_places, poly_guard, guarded, partial_width, all_guarded, result_low, result_high}
use Rattle.opgen_ports.specs.Modes.{IsExactOrFaithful}
use Rattle.opgen_ports.specs.Meaning.{Meaning}
use Rattle.opgen_ports.specs.Ports.{port, one_input}
use Rattle.opgen_ports.specs.Ranges.{IsInput, IsWithin}
use Rattle.opgen_ports.specs.Recipes.{is_dadda}

-- no net of polynomials is built yet of larger counters or of rows
abbrev pub IsBuiltPoly : Polynomial → Type 0
IsBuiltPoly p = IsTrue (is_dadda p.compressor)

-- the input is below 1
pub record IsPoly (p : Polynomial) : Type 0 where
  pub input : IsInput p.input
  pub unsigned : p.input.signed ≡ false
  pub narrow : p.input.width ≤ 16
  pub below_one : p.input.lsb ≡ neg_ℤ (pos p.input.width)
  pub out_lsb : (negsuc 15 ≤ℤ p.out_lsb) × (p.out_lsb ≤ℤ pos 0)
  pub some : 2 ≤ length p.coefs
  pub few : length p.coefs ≤ 5
  pub coefs : All (IsWithin MAX_NUMERATOR) p.coefs
  pub positive : pos 1 ≤ℤ p.den
  pub small : p.den ≤ℤ MAX_DENOMINATOR
  pub built : IsBuiltPoly p

-- the least format that holds the least and the greatest result of a polynomial
abbrev pub poly_format : Polynomial → Format
poly_format p = record { signed = is_negative (result_low p); width = range_width (result_low p) (result_high p); lsb = p.out_lsb }

-- The terms of a polynomial from a power on, for an input of x / 2 ^ w: c * (x / 2 ^ w) ^ i is c * x ^ i * 2 ^ (w * (n - i)),
-- over 2 ^ (w * n).
abbrev pub terms_from : (power : ℕ) (coefs : List ℤ) (w n x : ℕ) → ℤ
terms_from i [] w n x = pos 0
terms_from i (c ∷ cs) w n x = (c *ℤ pos (x ^ i * 2 ^ (w * (n - i)))) +ℤ terms_from (i + 1) cs w n x

-- the exact value of a polynomial, whose input is unsigned
abbrev pub exact_poly : Polynomial → (x : ℤ) → Ratio
exact_poly p x = record {
  num = terms_from 0 p.coefs p.input.width (degree p) (unsigned_abs x) *ℤ pos (2 ^ result_places p);
  den = p.den *ℤ pos (2 ^ (p.input.width * degree p));
}

-- What a polynomial means. Nothing is said of what its format holds: that holds the results of Horner's rule, and not each exact value
-- rounded up. The result for 10 / 3 is 3, whose two bits do not hold 4.
abbrev pub poly_meaning : Polynomial → Meaning
poly_meaning p = record {
  inputs = one_input p.input;
  outputs = port (codes "y") (poly_format p) ∷ [];
  divisor = None;
  memory = 0;
  value = Some (λ inputs. exact_poly p (inputs 0 0));
  IsGood = λ mode inputs outputs. IsExactOrFaithful mode × IsGoodRatio mode (exact_poly p (inputs 0 0)) (outputs 0);
}

-- which polynomials are accepted
abbrev pub poly_acceptance : Polynomial → Acceptance
poly_acceptance p = record {
  IsIn = λ version. version ≢ 1;
  IsRanged = IsPoly p;
  given_names = [];
  shift = pos 0;
  least_shift = pos 0;
  most_shift = λ version. pos 0;
  inexact = Some 0;
  need = None;
  HasRoom = Unit {0};
  own_mark = None;
  IsExactIn128 = λ inputs. IsRatioIn128 (exact_poly p (inputs 0 0));
  FormatsHold = Unit {0};
  has_graph = false;
}

abbrev pub IsAcceptedPoly : Polynomial → Type 0
IsAcceptedPoly p = IsAcceptable (poly_meaning p) (poly_acceptance p)

-- The numbers of a polynomial: a coefficient has 30 bits, 16 places after the point and 4 guard bits, so 50 in units of the lowest guard
-- bit; five of them reach 2 ^ 53, and a partial value has 54 bits; a result, without the guard bits, has 50. With the 16 bits of the
-- input a heap has 70 bits.
pub record HasPolyRoom (p : Polynomial) : Type 0 where
  pub guard : poly_guard p ≤ 4
  pub guarded : All (λ c. unsigned_abs (guarded p c) ≤ 2 ^ 50) p.coefs
  pub partial : (place : ℕ) → p.input.width + partial_width (drop place (all_guarded p)) ≤ 70
  pub last : p.input.width + poly_guard p + (poly_format p).width ≤ 70

abbrev pub PolynomialsHaveRoom : Type 0
PolynomialsHaveRoom = (p : Polynomial) → IsPoly p → HasPolyRoom p
