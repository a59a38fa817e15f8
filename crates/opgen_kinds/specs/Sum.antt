-- Sums of the last inputs, each times a constant: multiples of one input, and filters of finite response.
use Rattle.std.specs.Int.{div_ceil}
use Rattle.std.specs.List.{position_from}
use Rattle.std.specs.Prelude.{ℕ, ◌≡◌, ◌≤◌, ◌≤ℤ◌, Bool, IsTrue, false, All, Option, Some, None, ◌+◌, ◌*◌, ◌^◌, ◌<◌, ℤ, pos, neg_ℤ, unsigned_abs, length, ◌-◌, List, [], ◌∷◌, ◌*ℤ◌, codes, ◌==◌, if◌then◌else◌, not, ◌-ℤ◌, count_by}
use Rattle.opgen_num.specs.declared.limits.TheConstants.{MAX_DENOMINATOR, MAX_NUMERATOR, MAX_TAPS}
use Rattle.opgen_ports.specs.declared.TheConstants.{MAX_SHIFT}
use Rattle.opgen_num.specs.declared.format.Format.{Format}
use Rattle.opgen_num.specs.declared.format.Ratio.{Ratio}
use Rattle.opgen_num.specs.declared.mode.Mode.TheVariants.{Faithful}
use Rattle.opgen_num.specs.Formats.{digit_count}
use Rattle.opgen_kinds.specs.declared.sum.Sum.{Sum}
use Rattle.opgen_ports.specs.declared.reach.Reach.{Reach}
use Rattle.opgen_ports.specs.Acceptance.{Acceptance}
use Rattle.opgen_ports.specs.Accepted.{IsAcceptable}
use Rattle.opgen_ports.specs.Good.{IsGoodRatio}
use Rattle.opgen_ports.specs.In128.{IsRatioIn128}
use Rattle.opgen_ports.specs.Meaning.{Meaning}
use Rattle.opgen_ports.specs.Modes.{IsExactOrFaithful}
use Rattle.opgen_ports.specs.Recipes.{has_counters, is_of_bits}
use Rattle.opgen_ports.specs.Ranges.{AreNear, IsPower, IsInput, IsWithin}
use Rattle.opgen_ports.specs.Ports.{port, covering, one_input, Recent, weighted}
use Rattle.opgen_ports.specs.Reaches.{reach_over, in_places, width_of, places_up, up, down, is_whole_at}
use Rattle.opgen_ports.specs.Spans.{IsOf, Spans}

-- no net is built yet of sums that are rounded down or to the nearest, of rows, or for tables of other than six inputs
abbrev pub IsBuiltSum : Sum → Type 0
IsBuiltSum s = IsExactOrFaithful s.mode × IsTrue (is_of_bits s.compressor) × (s.lut ≡ 6)

pub record IsSum (most : ℕ) (s : Sum) : Type 0 where
  pub input : IsInput s.input
  pub out_lsb : IsPower s.out_lsb
  pub some : 1 ≤ length s.coefs
  pub few : length s.coefs ≤ most
  pub coefs : All (IsWithin MAX_NUMERATOR) s.coefs
  pub positive : pos 1 ≤ℤ s.den
  pub small : s.den ≤ℤ MAX_DENOMINATOR
  pub built : IsBuiltSum s

-- the power of two that brings the exact value into units of the output's last place
abbrev pub sum_shift : Sum → ℤ
sum_shift s = s.input.lsb -ℤ s.out_lsb

-- the greatest shift of a sum
abbrev pub most_sum_shift : (version : ℕ) → ℤ
most_sum_shift version = if version == 1 then MAX_SHIFT else pos 32

-- a coefficient is whole in units of the output's last place
abbrev pub is_whole : Sum → ℤ → Bool
is_whole s c = is_whole_at s.den (sum_shift s) c

-- the first coefficient that is not
abbrev pub first_inexact_of : (den shift : ℤ) (coefs : List ℤ) → Option ℕ
first_inexact_of den s coefs = position_from (λ c. not (is_whole_at den s c)) 0 coefs

abbrev pub first_inexact : Sum → Option ℕ
first_inexact s = first_inexact_of s.den (sum_shift s) s.coefs

abbrev pub sum_reach : Sum → Reach
sum_reach s = reach_over s.input s.coefs

abbrev pub sum_places : Sum → Reach
sum_places s = in_places (sum_reach s) (sum_shift s) s.den

-- The tables of a sum: one is counted for each six bits of the input at each coefficient that is not 0. Each rounds once at most.
abbrev pub terms : List ℤ → ℕ
terms coefs = count_by (λ c. not (unsigned_abs c == 0)) coefs

abbrev pub tables : Sum → ℕ
tables s = terms s.coefs * div_ceil s.input.width 6

-- The guard bits of a sum: the least g with 2 ^ g above the number of its tables, which is how many binary digits that
-- number has; none where each coefficient is whole.
abbrev pub guard_for : Option ℕ → Sum → ℕ
guard_for None s = 0
guard_for (Some _) s = digit_count (tables s)

abbrev pub guard_bits : Sum → ℕ
guard_bits s = guard_for (first_inexact s) s

-- the width of the widest signal
abbrev pub sum_need : Sum → ℕ
sum_need s = width_of (sum_places s) + guard_bits s

-- A sum has room in 128 bits where its input and its shift up have 80 bits together: 32 and 48 in version 1, 48 and 32 in
-- later versions.
abbrev pub HasSumRoom : Sum → Type 0
HasSumRoom s = s.input.width + places_up (sum_shift s) ≤ 80

abbrev pub sum_format : Sum → Format
sum_format s = covering (sum_places s) s.out_lsb

-- the last inputs, each times its coefficient, over the denominator
abbrev pub weighted_value : (coefs : List ℤ) (den shift : ℤ) → Recent → Ratio
weighted_value coefs den s x = record { num = weighted coefs x *ℤ pos (up s); den = den *ℤ pos (down s) }

abbrev pub exact_sum : Sum → Recent → Ratio
exact_sum s x = weighted_value s.coefs s.den (sum_shift s) x

-- the format of the output holds every exact value, rounded down or up
abbrev pub SumsHold : Sum → Type 0
SumsHold s = IsSum MAX_TAPS s → (x : Recent) → ((ago : ℕ) → IsOf s.input (x ago))
    → (y : ℤ) → IsGoodRatio Faithful (exact_sum s x) y → IsOf (sum_format s) y

-- what a sum means
abbrev pub sum_meaning : Sum → Meaning
sum_meaning s = record {
  inputs = one_input s.input;
  outputs = port (codes "y") (sum_format s) ∷ [];
  divisor = None;
  memory = length s.coefs - 1;
  value = Some (λ inputs. exact_sum s (inputs 0));
  IsGood = λ mode inputs outputs. IsGoodRatio mode (exact_sum s (inputs 0)) (outputs 0);
}

-- which sums are accepted, of so many coefficients at most
abbrev pub sum_acceptance : (most : ℕ) → Sum → Acceptance
sum_acceptance most s = record {
  IsIn = λ version. (version ≡ 1 → has_counters s.compressor ≡ false) × AreNear version (s.input.lsb ∷ s.out_lsb ∷ []);
  IsRanged = IsSum most s;
  given_names = [];
  shift = sum_shift s;
  least_shift = neg_ℤ MAX_SHIFT;
  most_shift = most_sum_shift;
  inexact = first_inexact s;
  need = Some (sum_need s);
  HasRoom = HasSumRoom s;
  own_mark = Some s.mode;
  IsExactIn128 = λ inputs. IsRatioIn128 (exact_sum s (inputs 0));
  FormatsHold = SumsHold s;
  has_graph = false;
}

abbrev pub scale_acceptance : Sum → Acceptance
scale_acceptance s = sum_acceptance 1 s

abbrev pub fir_acceptance : Sum → Acceptance
fir_acceptance s = sum_acceptance MAX_TAPS s

-- A sum of one coefficient is accepted as a filter where it is as a multiple of its input.
abbrev pub IsAcceptedSum : Sum → Type 0
IsAcceptedSum s = IsAcceptable (sum_meaning s) (fir_acceptance s)

-- the exact values of a sum, over all inputs before the last cycle and in it
abbrev pub SumsReach : Type 0
SumsReach = (s : Sum) → IsSum MAX_TAPS s → Spans Recent (λ x. (ago : ℕ) → IsOf s.input (x ago)) (exact_sum s) (sum_places s)

-- A table of a sum has the numbers of some bits of its input, times one coefficient, in units of the output's last place with the
-- guard bits below it: a numerator of 122 bits, since a coefficient has 30, the input and a shift up have 80, and there are 12
-- guard bits at most. With a bit more for rounding, it and the denominator are together below 2 ^ 126.
pub record IsEntrySmall (s : Sum) (coef : ℤ) : Type 0 where
  pub in122 : unsigned_abs coef * up (sum_shift s) * 2 ^ (s.input.width + guard_bits s) ≤ 2 ^ 122
  pub rounded : unsigned_abs coef * up (sum_shift s) * 2 ^ (s.input.width + guard_bits s + 1) + unsigned_abs s.den * down (sum_shift s) < 2 ^ 126

abbrev pub EntriesAreSmall : Type 0
EntriesAreSmall = (s : Sum) → IsAcceptedSum s → (guard_bits s ≤ 12) × All (IsEntrySmall s) s.coefs
