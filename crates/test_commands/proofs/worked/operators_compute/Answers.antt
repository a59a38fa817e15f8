use Rattle.std.proofs.Common.{refl, arith}
use Rattle.std.proofs.lemmas.Int.{ints}
use Rattle.test_commands.proofs.worked.operators_compute.Goals as goal

pub returns : goal.returns
returns c = record {
  third_format = refl;
  third_guard = refl;
  third_value = refl;
  third_floor = omega (arith, ints);
  third_ceiling = omega (arith, ints);
  third_above = λ h. omega (arith, ints, h);
  smooth_value = refl;
  smooth_start = refl;
  smooth_format = refl;
  square_format = refl;
  square_value = refl;
  quotient_named = refl;
  quotient_good = record { whole = refl; smaller = omega arith; alike = omega (arith, ints) };
  quotient_rest = λ h. omega (arith, ints, h.smaller);
  signed_named = refl;
  signed_good = record { whole = refl; smaller = omega (arith, ints); alike = omega (arith, ints) };
  signed_floor = λ h. omega (arith, ints, h.alike);
  root_named = refl;
  root_good = (omega arith, omega arith);
  root_rest = λ h. omega (arith, h.1);
  multiple_format = refl;
  seventh_named = refl;
  seventh_good = (omega arith, omega arith);
  seventh_rest = λ h. omega (arith, h.1);
  halves_guard = refl;
  halves_format = refl;
  halves_value = refl;
  halves_good = omega (arith, ints);
  halves_above = λ h. omega (arith, ints, h);
  taps_format_is = refl;
  taps_value = refl;
  cut_format = refl;
  cut_value = refl;
  cut_good = omega (arith, ints);
  cut_below = λ h. omega (arith, ints, h);
}
