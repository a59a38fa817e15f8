-- Filters of whole coefficients in transposed form.
use Rattle.std.specs.Prelude.{◌≡◌, ◌≢◌, ◌≤◌, ◌<◌, ◌+◌, ◌-◌, All, None, Some, false, true, neg_ℤ, pos, length, [], ◌∷◌, codes, IsTrue}
use Rattle.opgen_num.specs.declared.limits.TheConstants.{MAX_CONSTANT, MAX_SEARCHED_CONSTANT, MAX_SEARCHED_TAPS, MAX_TAPS}
use Rattle.opgen_ports.specs.declared.TheConstants.{MAX_SHIFT}
use Rattle.opgen_num.specs.declared.format.Format.{Format}
use Rattle.opgen_num.specs.declared.format.Ratio.{Ratio}
use Rattle.opgen_num.specs.declared.mode.Mode.TheVariants.{Faithful}
use Rattle.opgen_ports.specs.declared.recipes.Compressor.TheVariants.{Dadda}
use Rattle.opgen_kinds.specs.declared.sum.Sum.{Sum}
use Rattle.opgen_kinds.specs.declared.taps.Taps.{Taps}
use Rattle.opgen_ports.specs.Acceptance.{Acceptance}
use Rattle.opgen_ports.specs.Accepted.{IsAcceptable}
use Rattle.opgen_kinds.specs.Sum.{sum_shift, sum_format, exact_sum, first_inexact, SumsHold}
use Rattle.opgen_ports.specs.Ranges.{AreNear, IsPower, IsInput, IsWithin}
use Rattle.opgen_ports.specs.Good.{IsGoodRatio}
use Rattle.opgen_ports.specs.In128.{IsRatioIn128}
use Rattle.opgen_ports.specs.Meaning.{Meaning}
use Rattle.opgen_ports.specs.Modes.{is_faithful}
use Rattle.opgen_ports.specs.OddParts.{odd_part_count}
use Rattle.opgen_ports.specs.Ports.{port, one_input, Recent}
use Rattle.opgen_ports.specs.Recipes.{is_third}

-- what the search for the fewest adders takes
pub record AreSearchedFor (f : Taps) : Type 0 where
  pub few : length f.taps ≤ MAX_SEARCHED_TAPS
  pub taps : All (IsWithin MAX_SEARCHED_CONSTANT) f.taps
  pub parts : odd_part_count f.taps ≤ 8
  pub extra : f.extra ≤ 2

-- no net is built yet of filters that depends on the mode, or as in version 4
abbrev pub IsBuiltTaps : Taps → Type 0
IsBuiltTaps f = IsTrue (is_faithful f.mode) × IsTrue (is_third f.recipe)

pub record IsTaps (f : Taps) : Type 0 where
  pub input : IsInput f.input
  pub out_lsb : IsPower f.out_lsb
  pub some : 1 ≤ length f.taps
  pub few : length f.taps ≤ MAX_TAPS
  pub taps : All (IsWithin MAX_CONSTANT) f.taps
  pub searched : IsTrue f.searched → AreSearchedFor f
  pub rest : f.searched ≡ false → f.extra ≡ 0
  pub built : IsBuiltTaps f

-- the direct form: the same sum of the last inputs, over 1
abbrev pub direct : Taps → Sum
direct f = record { input = f.input; out_lsb = f.out_lsb; coefs = f.taps; den = pos 1; mode = Faithful; compressor = Dadda; lut = 6 }

abbrev pub taps_format : Taps → Format
taps_format f = sum_format (direct f)

abbrev pub exact_taps : Taps → Recent → Ratio
exact_taps f x = exact_sum (direct f) x

-- what whole taps mean: the transposed form has the exact values and the format of the direct one
abbrev pub taps_meaning : Taps → Meaning
taps_meaning f = record {
  inputs = one_input f.input;
  outputs = port (codes "y") (taps_format f) ∷ [];
  divisor = None;
  memory = length f.taps - 1;
  value = Some (λ inputs. exact_taps f (inputs 0));
  IsGood = λ mode inputs outputs. IsGoodRatio mode (exact_taps f (inputs 0)) (outputs 0);
}

-- which filters are accepted
abbrev pub taps_acceptance : Taps → Acceptance
taps_acceptance f = record {
  -- version 2 has neither cut outputs nor graphs of a fixed rule
  IsIn = λ version. (version ≢ 1) × AreNear version (f.input.lsb ∷ []) × (version < 3 → (f.out_lsb ≡ f.input.lsb) × IsTrue f.searched);
  IsRanged = IsTaps f;
  given_names = [];
  shift = sum_shift (direct f);
  least_shift = neg_ℤ MAX_SHIFT;
  most_shift = λ version. pos 0;
  inexact = first_inexact (direct f);
  need = None;
  HasRoom = Unit {0};
  own_mark = None;
  IsExactIn128 = λ inputs. IsRatioIn128 (exact_taps f (inputs 0));
  FormatsHold = SumsHold (direct f);
  has_graph = true;
}

abbrev pub IsAcceptedTaps : Taps → Type 0
IsAcceptedTaps f = IsAcceptable (taps_meaning f) (taps_acceptance f)

-- The output of an accepted filter has 29 bits more than the input at most: 20 of a tap, 8 of their number and a sign; so 77 with an input of 48.
abbrev pub TapsHaveRoom : Type 0
TapsHaveRoom = (f : Taps) → IsAcceptedTaps f → (taps_format f).width ≤ f.input.width + 29
