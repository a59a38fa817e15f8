-- The filter that `workload` makes from a number.
use Rattle.std.specs.Prelude.{ℕ, zero, suc, ◌*◌, true, false, None, List, [], ◌∷◌, codes, ℤ, pos, negsuc, ◌-ℤ◌}
use Rattle.opgen_kinds.specs.declared.sum.Sum.{Sum}
use Rattle.opgen_num.specs.declared.mode.Mode.TheVariants.{Faithful}
use Rattle.opgen_ports.specs.declared.recipes.Compressor.TheVariants.{Dadda}
use Rattle.opgen_num.specs.declared.mode.Overflow.TheVariants.{Saturate}
use Rattle.opgen_operator.specs.declared.operator.Operator.TheVariants.{Fir}
use Rattle.opgen_operator.specs.declared.spec.Spec.{Spec}
use Rattle.opgen_vec.specs.Stimulus.{drawn, next}

-- a number of 15 bits from a state of the generator, with 0 in the middle
abbrev pub coefficient : (state : ℕ) → ℤ
coefficient state = pos (drawn 15 state) -ℤ pos 16384

-- one draw after another, each from the next state
abbrev pub coefficients : (taps state : ℕ) → List ℤ
coefficients zero state = []
coefficients (suc taps) state = coefficient (next state) ∷ coefficients taps (next state)

-- eight taps for each unit of the number, over inputs from -1 to 1 of 12 bits
abbrev pub workload_sum : (n : ℕ) → Sum
workload_sum n = record {
  input = record { signed = true; width = 12; lsb = negsuc 10 };
  out_lsb = negsuc 10;
  coefs = coefficients (8 * n) n;
  den = pos 65536;
  mode = Faithful;
  compressor = Dadda;
  lut = 6;
}

abbrev pub workload_spec : (n : ℕ) → Spec
workload_spec n = record {
  version = 1;
  name = codes "workload";
  op = Fir (workload_sum n);
  exact = false;
  rounding = None;
  out_width = None;
  out_signed = None;
  overflow = Saturate;
  target = codes "plain";
  period = 4000;
  delays = [];
}
