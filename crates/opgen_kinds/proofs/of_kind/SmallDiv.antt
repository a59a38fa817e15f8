-- What holds of quotients by small constants: their formats, port names and widths.
use Rattle.std.proofs.Common.{◌-◌, ◌≤◌, arith, ℕ, ◌*◌, Bool, true, false, subst}
use Rattle.std.proofs.lemmas.Int.{ints}
use Rattle.std.proofs.Math.Nat.{mul-le-mul_left}
use Rattle.std.specs.Prelude.{ℤ, pos, unsigned_abs, All}
use Rattle.opgen_num.proofs.RangeWidth.{count-least, count-holds, digits-some}
use Rattle.opgen_num.specs.Rounding.{IsQuotient}
use Rattle.opgen_kinds.specs.declared.small_div.SmallDiv.{SmallDiv}
use Rattle.opgen_ports.specs.Ports.{HasWidth}
use Rattle.opgen_kinds.specs.SmallDiv.{small_rest_format, IsSmallDiv, small_quotient_format, small_ports, IsGoodSmallQuotient, small_meaning, small_acceptance}
use Rattle.opgen_ports.specs.Modes.{is_exact, IsExactOrFaithful}
use Rattle.opgen_ports.specs.Limits.{most_signal}
use Rattle.opgen_ports.specs.Spans.{IsOf}
use Rattle.opgen_ports.proofs.Covered.{unsigned_of}
use Rattle.opgen_ports.proofs.In128.{small_in128}
use Rattle.opgen_ports.proofs.InputPorts.{all_one, all_two, input_bit, HasBit}
use Rattle.opgen_ports.proofs.Lawful.{IsLawful}
use Rattle.opgen_ports.proofs.Magnitudes.{number_small}
use Rattle.opgen_kinds.proofs.PortWidths.{wider}
use Rattle.opgen_ports.proofs.Versions.{signal_limit}

pub small_rest_width : (c : SmallDiv) → IsSmallDiv c → (1 ≤ (small_rest_format c).width) × ((small_rest_format c).width ≤ 5)
small_rest_width c fits = (
  digits-some (c.divisor - 1) (omega (arith, fits.least)),
  count-least (c.divisor - 1) 5 (omega (arith, fits.most)),
)

-- a quotient by a small divisor is no greater than the input, and the remainder no greater than the greatest one
pub small_quotients_held : (c : SmallDiv) → IsSmallDiv c → (x : ℤ) → IsOf c.input x → (q r : ℕ) → IsQuotient (unsigned_abs x) c.divisor q r
    → IsOf (small_quotient_format c) (pos q) × IsOf (small_rest_format c) (pos r)
small_quotients_held c fits x of q r (whole, less) =
    let (low, high) = unsigned_of c.input.signed c.input.width x fits.unsigned of in
    let most : q * 1 ≤ q * c.divisor = mul-le-mul_left q (omega (arith, fits.least)) in
    let rest = count-holds (c.divisor - 1) in
    ((omega (arith, ints), omega (arith, ints, low, high, whole, most)), (omega (arith, ints), omega (arith, ints, less, rest)))

smalls_wide : (exact : Bool) (c : SmallDiv) → IsSmallDiv c → All (HasWidth 64) (small_ports exact c)
smalls_wide true c fits =
    let (some, few) = small_rest_width c fits in
    all_two (HasWidth 64) _ _ (input_bit c.input fits.input, omega (arith, fits.input.most))
    (some, omega (arith, few))
smalls_wide false c fits =
    all_one (HasWidth 64) _ (input_bit c.input fits.input, omega (arith, fits.input.most))

-- what holds of its meaning
pub small_lawful : (c : SmallDiv) → IsLawful (small_meaning c) (small_acceptance c)
small_lawful c = record {
  some_input = λ is. omega arith;
  input_bits = λ is. all_one HasBit _ (input_bit c.input is.input);
  wide = λ version is. wider (most_signal version) (small_ports c.exact c) (signal_limit version).0 (smalls_wide c.exact c is.ranges);
  limit = λ version h. omega (arith, ints);
  least = λ h. omega (arith, ints);
  room = λ version within high. tt;
  held = small_quotients_held c;
  in128 = λ version is inputs of.
      let x = number_small c.input (inputs 0 0) is.ranges.input (of 0 0 (omega arith)) in (
        small_in128 (inputs 0 0) (omega (arith, x)),
        small_in128 (pos c.divisor) (omega (arith, is.ranges.most)),
      );
  recalls = λ mode inputs others outputs same good.
      subst (λ x. IsExactOrFaithful mode × IsGoodSmallQuotient (is_exact mode) c x (outputs 0) (outputs 1)) (same 0 0 (omega arith)) good;
}
