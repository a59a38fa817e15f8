-- What holds of sums: their limits, ranges, formats, and what stands in 128 bits.
use Rattle.std.proofs.Common.{ℕ, ◌==◌, Bool, true, false, arith, if◌then◌else◌, ◌+◌, ◌≤◌, ◌*◌, ◌<◌, get_or, ap, ◌^◌, length, List, not, Option, Some, None, refl, ◌≡◌, ◌-◌, subst}
use Rattle.std.proofs.lemmas.Int.{ints}
use Rattle.std.proofs.lemmas.List.Sums.{count_by-le-length}
use Rattle.std.proofs.lemmas.Nat.{pow_pos}
use Rattle.std.proofs.Math.Nat.{mul-le-mul}
use Rattle.std.specs.Int.{div_ceil}
use Rattle.std.specs.Prelude.{ℤ, pos, ◌≤ℤ◌, negsuc, ◌*ℤ◌, unsigned_abs}
use Rattle.opgen_num.specs.declared.mode.Mode.TheVariants.{Faithful}
use Rattle.opgen_num.proofs.BitLength.{power_order}
use Rattle.opgen_num.proofs.RangeWidth.{count-least}
use Rattle.opgen_num.specs.declared.mode.Mode.{Mode}
use Rattle.opgen_num.specs.Rounding.{IsGoodLinear}
use Rattle.opgen_kinds.specs.declared.sum.Sum.{Sum}
use Rattle.opgen_ports.specs.Accepted.{IsAcceptedIn, IsAcceptable}
use Rattle.opgen_ports.specs.declared.TheConstants.{MAX_SHIFT}
use Rattle.opgen_ports.specs.Ports.{HasWidth, Recent, weighted}
use Rattle.opgen_ports.specs.Good.{IsGoodRatio}
use Rattle.opgen_ports.specs.In128.{IsRatioIn128}
use Rattle.opgen_kinds.specs.Sum.{most_sum_shift, sum_shift, HasSumRoom, IsSum, IsAcceptedSum, exact_sum, sum_reach, sum_places, sum_format, terms, guard_bits, guard_for, first_inexact, tables, IsEntrySmall, EntriesAreSmall, sum_need, sum_meaning, sum_acceptance, scale_acceptance, fir_acceptance}
use Rattle.opgen_ports.specs.Limits.{most_input, most_signal}
use Rattle.opgen_ports.specs.Ranges.{IsWithin}
use Rattle.opgen_ports.specs.Reaches.{reach_of, in_places, places_up, places_down, up, down}
use Rattle.opgen_ports.specs.Spans.{IsOf, Spans}
use Rattle.opgen_ports.proofs.Bounds.{few_up, few_units, products, few_down}
use Rattle.opgen_ports.proofs.Covered.{rounded_within, covered}
use Rattle.opgen_ports.proofs.In128.{input_small, raised_in128, lowered_in128, weighted_small}
use Rattle.opgen_ports.proofs.InputPorts.{only_within, all_one, input_bit, HasBit}
use Rattle.opgen_ports.proofs.Lawful.{IsLawful}
use Rattle.opgen_ports.proofs.Reached.{held-within, within-held, sum_within, lowest, highest_for, lowest-within, highest-within, sum_lowest, sum_highest, low_end, high_end, least_end, greatest_end}
use Rattle.opgen_ports.proofs.Roundings.{positive_units}
use Rattle.opgen_ports.proofs.WeightedSums.{taps_bound, weighted-same}
use Rattle.opgen_ports.proofs.Widths.{some_width}

pub sum_shift_limit : (version : ℕ) (s : ℤ) → s ≤ℤ most_sum_shift version → s ≤ℤ MAX_SHIFT
sum_shift_limit version s h = go (version == 1) h
  where
    go : (b : Bool) → s ≤ℤ (if b then pos 48 else pos 32) → s ≤ℤ MAX_SHIFT
    go true h = h
    go false h = omega (arith, ints)

pub sum_room : (version : ℕ) (s : Sum) → s.input.width ≤ most_input version → sum_shift s ≤ℤ most_sum_shift version → HasSumRoom s
sum_room version s few high = go (version == 1) few high
  where
    go : (b : Bool) → s.input.width ≤ (if b then 32 else 48) → sum_shift s ≤ℤ (if b then pos 48 else pos 32)
        → s.input.width + places_up (sum_shift s) ≤ 80
    go true few high = omega (arith, few_up 48 (sum_shift s) high)
    go false few high = omega (arith, few_up 32 (sum_shift s) high)

-- a sum of one coefficient is accepted as a filter where it is as a multiple
pub single_sum : (s : Sum) → IsSum 1 s → IsSum 256 s
single_sum s is = record {
  input = is.input;
  out_lsb = is.out_lsb;
  some = is.some;
  few = omega (arith, is.few);
  coefs = is.coefs;
  positive = is.positive;
  small = is.small;
  built = is.built;
}

one_more : (version : ℕ) (s : Sum) → IsAcceptedIn version (sum_meaning s) (scale_acceptance s)
    → IsAcceptedIn version (sum_meaning s) (fir_acceptance s)
one_more version s by = record {
  ranges = single_sum s by.ranges;
  inputs = by.inputs;
  fine = by.fine;
  narrow = λ bits e. by.narrow bits e;
  whole = λ asked. by.whole asked;
}

pub multiple_accepted : (s : Sum) → IsAcceptable (sum_meaning s) (scale_acceptance s) → IsAcceptedSum s
multiple_accepted s (version, by) = (version, one_more version s by)

pub sums_span : (s : Sum) → IsSum 256 s → Spans Recent (λ x. (ago : ℕ) → IsOf s.input (x ago)) (exact_sum s) (sum_places s)
sums_span s fits = go s.den fits.positive
  where
    go : (den : ℤ) → pos 1 ≤ℤ den → Spans Recent (λ x. (ago : ℕ) → IsOf s.input (x ago))
        (λ x. record { num = weighted s.coefs x *ℤ pos (up (sum_shift s)); den = den *ℤ pos (down (sum_shift s)) })
        (in_places (sum_reach s) (sum_shift s) den)
    go (pos d) h =
        let f = s.input in
        let below = (reach_of f).below in
        let above = (reach_of f).above in
        let some : 0 < d * down (sum_shift s) = mul-le-mul {n₁ = 1} {m₁ = 1} {n₂ = d} {m₂ = down (sum_shift s)} (omega (arith, ints))
        (pow_pos (places_down (sum_shift s))) in
        let low : Recent = λ k. lowest below above (get_or s.coefs k (pos 0)) in
        let high : Recent = λ k. highest_for below above (get_or s.coefs k (pos 0)) in
        let within = λ (x : Recent) (of : (ago : ℕ) → IsOf f (x ago)). sum_within below above 0 s.coefs x
        (λ k. held-within f.signed f.width (x k) (of k)) in
        record {
          low = λ x of. low_end (weighted s.coefs x) (sum_reach s).below (sum_reach s).above (up (sum_shift s))
              (d * down (sum_shift s)) some ((within x of).0);
          high = λ x of. high_end (weighted s.coefs x) (sum_reach s).below (sum_reach s).above (up (sum_shift s))
              (d * down (sum_shift s)) some ((within x of).1);
          least = (
            low,
            λ k. within-held f.signed f.width (low k) (lowest-within below above (get_or s.coefs k (pos 0))),
            least_end (weighted s.coefs low) (sum_reach s).below (sum_reach s).above (up (sum_shift s)) (d * down (sum_shift s)) some
                (sum_lowest below above 0 s.coefs low (λ k lt. ap low (omega arith))),
          );
          greatest = (
            high,
            λ k. within-held f.signed f.width (high k) (highest-within below above (get_or s.coefs k (pos 0))),
            greatest_end (weighted s.coefs high) (sum_reach s).below (sum_reach s).above (up (sum_shift s)) (d * down (sum_shift s)) some
                (sum_highest below above 0 s.coefs high (λ k lt. ap high (omega arith))),
          );
        }
    go (negsuc d) h = absurd (omega (arith, ints))

pub sums_held : (s : Sum) → IsSum 256 s → (x : Recent) → ((ago : ℕ) → IsOf s.input (x ago)) → (y : ℤ) → IsGoodRatio Faithful (exact_sum s x) y
    → IsOf (sum_format s) y
sums_held s fits x of y good =
    let span = sums_span s fits in
    let ratio = exact_sum s x in
    covered (sum_places s) s.out_lsb y
    (rounded_within ratio.num ratio.den (sum_places s).below (sum_places s).above y
    (positive_units s.den (places_down (sum_shift s)) fits.positive) (span.low x of) (span.high x of) good)

pub sum_in128 : (most : ℕ) (s : Sum) (x : Recent) → most ≤ 256 → IsSum most s → negsuc 47 ≤ℤ sum_shift s → HasSumRoom s
    → ((ago : ℕ) → IsOf s.input (x ago)) → IsRatioIn128 (exact_sum s x)
sum_in128 most s x few fits low room of =
    let taps = weighted_small s.input.width 0 s.coefs x fits.coefs (λ k. input_small s.input (x k) (of k)) in
    let bound = taps_bound (unsigned_abs (weighted s.coefs x)) (length s.coefs) s.input.width taps (omega (arith, fits.few, few)) in (
      raised_in128 (weighted s.coefs x) (s.input.width + 38) (sum_shift s) bound (omega (arith, room)),
      lowered_in128 s.den (sum_shift s) (few_units (2 ^ 30) s.den fits.positive fits.small) low,
    )

-- the guard bits of a sum
few_terms : (coefs : List ℤ) → terms coefs ≤ length coefs
few_terms coefs = count_by-le-length (λ c. not (unsigned_abs c == 0)) coefs

pub guard_small : (s : Sum) → IsSum 256 s → guard_bits s ≤ 12
guard_small s fits = go (first_inexact s)
  where
    chunks : div_ceil s.input.width 6 ≤ 8
    chunks = omega (arith, fits.input.most)

    few : tables s ≤ 256 * 8
    few = mul-le-mul {n₁ = terms s.coefs} {m₁ = div_ceil s.input.width 6} {n₂ = 256} {m₂ = 8}
        (omega (arith, few_terms s.coefs, fits.few)) chunks

    go : (o : Option ℕ) → guard_for o s ≤ 12
    go None = omega arith
    go (Some i) = count-least (tables s) 12 (omega (arith, few))

entry_small : (s : Sum) (c : ℤ) → IsSum 256 s → IsWithin (2 ^ 30) c → negsuc 47 ≤ℤ sum_shift s → HasSumRoom s → IsEntrySmall s c
entry_small s c fits small low room =
    let w = s.input.width in
    let g = guard_bits s in
    let u = places_up (sum_shift s) in
    let raised = products (unsigned_abs c) (2 ^ u) 30 u small (omega arith) in
    let plain = products (unsigned_abs c * 2 ^ u) (2 ^ (w + g)) (30 + u) (w + g) raised (omega arith) in
    let whole = products (unsigned_abs c * 2 ^ u) (2 ^ (w + g + 1)) (30 + u) (w + g + 1) raised (omega arith) in
    let units = products (unsigned_abs s.den) (down (sum_shift s)) 30 48 (few_units (2 ^ 30) s.den fits.positive fits.small)
    (power_order (places_down (sum_shift s)) 48 (few_down 47 (sum_shift s) low)) in
    record {
      in122 = omega (arith, plain, power_order (30 + u + (w + g)) 122 (omega (arith, room, guard_small s fits)));
      rounded = omega (arith, whole, power_order (30 + u + (w + g + 1)) 123 (omega (arith, room, guard_small s fits)), units);
    }

pub entries_small : EntriesAreSmall
entries_small s (version, by) = (
  guard_small s by.ranges,
  λ k d below. entry_small s (get_or s.coefs k d) by.ranges (by.ranges.coefs k d below) by.fine.0
      (sum_room version s (only_within _ s.input by.inputs) by.fine.1),
)

-- the exact value depends on as many inputs as there are coefficients
pub sum_recalls : (s : Sum) (mode : Mode) (x y : Recent) (n : ℤ) → ((ago : ℕ) → ago ≤ length s.coefs - 1 → x ago ≡ y ago)
    → IsGoodRatio mode (exact_sum s x) n → IsGoodRatio mode (exact_sum s y) n
sum_recalls s mode x y n same good = subst (λ total. IsGoodLinear (total *ℤ pos (up (sum_shift s))) (s.den *ℤ pos (down (sum_shift s))) n mode)
    (weighted-same 0 s.coefs x y (λ ago here. same ago (omega (arith, here)))) good

-- what holds of its meaning
pub sum_lawful : (most : ℕ) (s : Sum) → most ≤ 256 → IsLawful (sum_meaning s) (sum_acceptance most s)
sum_lawful most s few = record {
  some_input = λ is. omega arith;
  input_bits = λ is. all_one HasBit _ (input_bit s.input is.input);
  wide = λ version is. all_one (HasWidth (most_signal version)) _ (some_width (sum_places s), omega (arith, is.narrow (sum_need s) refl));
  limit = λ version h. sum_shift_limit version (sum_shift s) h;
  least = λ h. h;
  room = λ version within high. sum_room version s (only_within (most_input version) s.input within) high;
  held = sums_held s;
  in128 = λ version is inputs of. sum_in128 most s (inputs 0) few is.ranges is.fine.0
      (sum_room version s (only_within _ s.input is.inputs) is.fine.1) (λ ago. of 0 ago (omega arith));
  recalls = λ mode inputs others outputs same good. sum_recalls s mode (inputs 0) (others 0) (outputs 0) (same 0) good;
}

pub fir_lawful : (s : Sum) → IsLawful (sum_meaning s) (fir_acceptance s)
fir_lawful s = sum_lawful 256 s (omega arith)
