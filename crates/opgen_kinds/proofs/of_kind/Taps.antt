-- What holds of filters of whole coefficients: each is a direct sum over 1; its format, width and exact values.
use Rattle.std.proofs.Common.{◌^◌, arith, ◌≡◌, ◌+◌, ℕ, zero, suc, ◌*◌, ◌≤◌, ◌%◌, ◌==◌, ◌↔◌, true, not, List, [], ◌∷◌, length, ◌<◌, None, refl, eq-eqb, ap, ap₂, ◌∙◌, sym, subst}
use Rattle.std.proofs.lemmas.Int.{ints}
use Rattle.std.proofs.lemmas.Nat.{pow-add, pow_pos}
use Rattle.std.proofs.Math.Nat.{mul-le-mul_left, mul-le-mul_right}
use Rattle.std.specs.List.{position_from}
use Rattle.std.specs.Prelude.{All, ℤ, pos, negsuc, unsigned_abs, ◌≤ℤ◌, ◌*ℤ◌}
use Rattle.opgen_num.specs.declared.format.Ratio.{Ratio}
use Rattle.opgen_num.specs.declared.mode.Mode.{Mode}
use Rattle.opgen_kinds.specs.declared.taps.Taps.{Taps}
use Rattle.opgen_kinds.specs.Sum.{IsSum, HasSumRoom, sum_shift, sum_places, first_inexact_of, first_inexact}
use Rattle.opgen_ports.specs.Reaches.{is_whole_at, up, down, rises, falls, reach_of, reach_over, in_units, in_places}
use Rattle.opgen_kinds.specs.Taps.{IsTaps, IsAcceptedTaps, TapsHaveRoom, direct, taps_format, exact_taps, taps_meaning, taps_acceptance}
use Rattle.opgen_ports.specs.declared.reach.Reach.{Reach}
use Rattle.opgen_ports.specs.Good.{IsGoodRatio}
use Rattle.opgen_ports.specs.Limits.{most_input, most_signal}
use Rattle.opgen_ports.specs.Ports.{HasWidth, covering, Recent, weighted}
use Rattle.opgen_ports.specs.Ranges.{IsWithin}
use Rattle.opgen_ports.proofs.Bounds.{few_up}
use Rattle.opgen_ports.proofs.InputPorts.{all_one, only_within, input_bit, HasBit}
use Rattle.opgen_ports.proofs.Reached.{rises-cons, falls-cons, ceiling, abs-parts, lowered_units}
use Rattle.opgen_ports.proofs.Widths.{reach_within, width_by, some_width}
use Rattle.opgen_ports.proofs.Lawful.{IsLawful}
use Rattle.opgen_kinds.proofs.PortWidths.{input_room}
use Rattle.opgen_kinds.proofs.of_kind.Sum.{sums_held, sum_in128, sum_recalls}

-- taps are coefficients
pub wide_taps : (f : Taps) → IsTaps f → All (IsWithin (2 ^ 30)) f.taps
wide_taps f fits k d h = omega (arith, fits.taps k d h)

-- a filter is a sum
pub direct_sum : (f : Taps) → IsTaps f → IsSum 256 (direct f)
direct_sum f fits = record {
  input = fits.input;
  out_lsb = fits.out_lsb;
  some = fits.some;
  few = fits.few;
  coefs = wide_taps f fits;
  positive = omega (arith, ints);
  small = omega (arith, ints);
  built = (tt, refl, refl);
}

-- that is not shifted up
pub taps_room : (f : Taps) → IsTaps f → sum_shift (direct f) ≤ℤ pos 0 → HasSumRoom (direct f)
taps_room f fits high = omega (arith, few_up 0 (sum_shift (direct f)) high, fits.input.most)

taps_within : (most : ℕ) (ts : List ℤ) → All (IsWithin most) ts → rises ts + falls ts ≤ length ts * most
taps_within most [] few = omega arith
taps_within most (t ∷ ts) few =
    let first : unsigned_abs t ≤ most = few zero t (omega arith) in
    let rest = taps_within most ts (λ k d h. few (suc k) d (omega arith)) in
    omega (arith, rises-cons t ts, falls-cons t ts, abs-parts t, first, rest)

weighed : (r f below above w : ℕ) → r + f ≤ 268435200 → below ≤ 2 ^ w → above ≤ 2 ^ w → r * below + f * above < 2 ^ (w + 28)
weighed r f below above w few low high =
    let first : r * below ≤ r * 2 ^ w = mul-le-mul_left r low in
    let second : f * above ≤ f * 2 ^ w = mul-le-mul_left f high in
    let all : (r + f) * 2 ^ w ≤ 268435200 * 2 ^ w = mul-le-mul_right (2 ^ w) few in
    omega (arith, first, second, all, pow-add 2 w 28, pow_pos w)

pub taps_reach : (f : Taps) → IsTaps f → ((reach_over f.input f.taps).below < 2 ^ (f.input.width + 28))
    × ((reach_over f.input f.taps).above < 2 ^ (f.input.width + 28))
taps_reach f fits =
    let w = f.input.width in
    let few : length f.taps * 1048575 ≤ 256 * 1048575 = mul-le-mul_right 1048575 fits.few in
    let total = taps_within 1048575 f.taps fits.taps in
    let (below, above) = reach_within f.input.signed w in (
      weighed (rises f.taps) (falls f.taps) (reach_of f.input).below (reach_of f.input).above w (omega (arith, few, total)) below above,
      weighed (rises f.taps) (falls f.taps) (reach_of f.input).above (reach_of f.input).below w (omega (arith, few, total)) above below,
    )

pub taps_width : (f : Taps) → IsTaps f → sum_shift (direct f) ≤ℤ pos 0 → (taps_format f).width ≤ f.input.width + 29
taps_width f fits high =
    let s = sum_shift (direct f) in
    let w = f.input.width in
    let reach = reach_over f.input f.taps in
    let (below, above) = taps_reach f fits in
    omega (
      arith,
      width_by (in_units reach.below s (pos 1)) (in_units reach.above s (pos 1)) (w + 28) (omega arith)
          (omega (arith, below, lowered_units reach.below s high)) (omega (arith, above, lowered_units reach.above s high)),
    )

pub taps_have_room : TapsHaveRoom
taps_have_room f (version, by) = taps_width f by.ranges by.fine.1

pub accepted_taps_room : (f : Taps) → IsAcceptedTaps f → HasSumRoom (direct f)
accepted_taps_room f (version, by) = taps_room f by.ranges by.fine.1

-- Where the output has the input's lowest bit, nothing is shifted: the format covers the range of the sum, the exact value is
-- the sum itself, and every tap is whole.
same_units : (n : ℕ) → in_units n (pos 0) (pos 1) ≡ n
same_units n =
    let (enough, close) = ceiling (n * 1) 1 (omega arith) in
    omega (arith, enough, close)

times_one : (n : ℤ) → n *ℤ pos 1 ≡ n
times_one (pos n) = omega (arith, ints)
times_one (negsuc n) = omega (arith, ints)

whole_here : (c : ℤ) → is_whole_at (pos 1) (pos 0) c ≡ true
whole_here c = go (unsigned_abs c)
  where
    go : (n : ℕ) → (n * 1 % (1 * 1) == 0) ≡ true
    go n = eq-eqb (n * 1 % (1 * 1)) 0 (omega arith)

all_whole : (n : ℕ) (taps : List ℤ) → position_from (λ c. not (is_whole_at (pos 1) (pos 0) c)) n taps ≡ None
all_whole n [] = refl
all_whole n (t ∷ ts) = rw (whole_here t) (all_whole (n + 1) ts)

module _ (f : Taps) (same : f.out_lsb ≡ f.input.lsb) where
  pub same_shift : sum_shift (direct f) ≡ pos 0
  same_shift = omega (arith, ints, same)

  same_places : in_places (reach_over f.input f.taps) (pos 0) (pos 1) ≡ reach_over f.input f.taps
  same_places = ap₂ {C = Reach} (λ below above. record { below = below; above = above })
      (same_units (reach_over f.input f.taps).below) (same_units (reach_over f.input f.taps).above)

  pub same_format : taps_format f ≡ covering (reach_over f.input f.taps) f.input.lsb
  same_format =
      ap (λ s. covering (in_places (reach_over f.input f.taps) s (pos 1)) f.out_lsb) same_shift
      ∙ ap₂ covering same_places same

  pub same_value : (x : Recent) → exact_taps f x ≡ record { num = weighted f.taps x; den = pos 1 }
  same_value x =
      ap {B = Ratio} (λ s. record { num = weighted f.taps x *ℤ pos (up s); den = pos 1 *ℤ pos (down s) }) same_shift
      ∙ ap {B = Ratio} (λ n. record { num = n; den = pos 1 }) (times_one (weighted f.taps x))

  pub same_good : (mode : Mode) (x : Recent) (y : ℤ)
      → IsGoodRatio mode (exact_taps f x) y ↔ IsGoodRatio mode (record { num = weighted f.taps x; den = pos 1 }) y
  same_good mode x y = (
    λ good. subst (λ (r : Ratio). IsGoodRatio mode r y) (same_value x) good,
    λ good. subst (λ (r : Ratio). IsGoodRatio mode r y) (sym (same_value x)) good,
  )

  pub same_whole : first_inexact (direct f) ≡ None
  same_whole = ap (λ s. first_inexact_of (pos 1) s f.taps) same_shift ∙ all_whole 0 f.taps

-- what holds of its meaning
pub taps_lawful : (f : Taps) → IsLawful (taps_meaning f) (taps_acceptance f)
taps_lawful f = record {
  some_input = λ is. omega arith;
  input_bits = λ is. all_one HasBit _ (input_bit f.input is.input);
  wide = λ version is. all_one (HasWidth (most_signal version)) _ (
    some_width (sum_places (direct f)),
    omega (
      arith,
      taps_width f is.ranges is.fine.1,
      only_within (most_input version) f.input is.inputs,
      input_room version,
    ),
  );
  limit = λ version h. omega (arith, ints, h);
  least = λ h. h;
  room = λ version within high. tt;
  held = sums_held (direct f);
  in128 = λ version is inputs of. sum_in128 256 (direct f) (inputs 0) (omega arith) (direct_sum f is.ranges) is.fine.0
      (taps_room f is.ranges is.fine.1) (λ ago. of 0 ago (omega arith));
  recalls = λ mode inputs others outputs same good. sum_recalls (direct f) mode (inputs 0) (others 0) (outputs 0) (same 0) good;
}
