-- The least formats of the outputs of whole coefficients, and transposed filters beside direct ones.
use Rattle.std.proofs.Common.{◌≡◌, ℕ, zero, suc, ◌+◌, ◌*◌, ◌≤◌, ◌<◌, Bool, true, List, [], ◌∷◌, map, get_or, nat_lt, codes, Some, refl, sym, ap, ◌∙◌, subst, arith}
use Rattle.std.specs.Prelude.{ℤ, pos, neg_ℤ, ◌*ℤ◌, ◌-ℤ◌, slice_get}
use Rattle.std.proofs.lemmas.Int.{ints}
use Rattle.std.proofs.lemmas.Nat.{pow_pos}
use Rattle.opgen_num.specs.declared.format.Format.{Format}
use Rattle.opgen_num.specs.declared.format.Ratio.{Ratio}
use Rattle.opgen_num.specs.Formats.{Holds, HoldsBoth}
use Rattle.opgen_num.proofs.Integers.{product-sum}
use Rattle.opgen_num.proofs.Quotients.{within_one}
use Rattle.opgen_num.proofs.RangeWidth.{range_width-least}
use Rattle.opgen_kinds.specs.declared.taps.Taps.{Taps}
use Rattle.opgen_kinds.specs.Several.{constant_format, numbered}
use Rattle.opgen_kinds.specs.Sum.{sum_format, sum_shift, weighted_value}
use Rattle.opgen_kinds.specs.Taps.{direct, taps_format}
use Rattle.opgen_kinds.proofs.of_kind.Taps.{same_format, same_value}
use Rattle.opgen_ports.specs.declared.reach.Reach.{Reach}
use Rattle.opgen_ports.specs.Ports.{format_at, Recent, weighted, covering, one_input, port}
use Rattle.opgen_ports.specs.Reaches.{in_places, reach_of, reach_over, width_of, down, places_down, up}
use Rattle.opgen_ports.specs.Spans.{IsOf}
use Rattle.opgen_ports.proofs.Covered.{covered, is_below, rounded_within}
use Rattle.opgen_ports.proofs.Reached.{IsWithinReach, greatest_end, held-within, high_end, highest-within, highest_for, least_end, low_end, lowest, lowest-within, sum_highest, sum_lowest, sum_within, within-held}
use Rattle.opgen_part_laws.specs.WholeCoefficients.{IsFaithful, IsLeastFormat, MultiplesAreLeast, TapsAreDirect, TapsAreLeast}

some_below : (n : ℕ) → nat_lt 0 n ≡ true → 0 < n
some_below zero e = cc
some_below (suc n) e = omega arith

-- values that go from one end of a reach to the other
module _ {Input : Type 0} (In : Input → Type 0) (value : Input → ℤ) (r : Reach) (lsb : ℤ)
    (within : (x : Input) → In x → IsWithinReach r.below r.above (value x))
    (low high : Input) (low_in : In low) (high_in : In high)
    (low_is : value low ≡ neg_ℤ (pos r.below)) (high_is : value high ≡ pos r.above) where
  abbrev IsLeast : (signed : Bool) → Type 0
  IsLeast signed =
      HoldsBoth signed (neg_ℤ (pos r.below)) (pos r.above) (width_of r)
      × ((other : ℕ) → HoldsBoth signed (neg_ℤ (pos r.below)) (pos r.above) other → width_of r ≤ other)

  width : IsLeast (nat_lt 0 r.below)
  width = subst IsLeast (is_below r.below) (range_width-least (neg_ℤ (pos r.below)) (pos r.above) (omega (arith, ints)))

  least_format : IsLeastFormat Input In value (covering r lsb)
  least_format = record {
    bits = width.0.0;
    holds = λ x is. covered r lsb (value x) (within x is);
    signed = λ e. (low, low_in, omega (arith, ints, low_is, some_below r.below e));
    least = λ other bits all. width.1 other (
      bits,
      subst (Holds (nat_lt 0 r.below) other) low_is (all low low_in),
      subst (Holds (nat_lt 0 r.below) other) high_is (all high high_in),
    );
  }

-- several constants
first : (c : ℤ) (k : ℕ) → k < 1 → c ≡ get_or (c ∷ []) k (pos 0)
first c zero lt = refl
first c (suc k) lt = absurd (omega (arith, lt))

once : (c x : ℤ) → weighted (c ∷ []) (λ ago. x) ≡ x *ℤ c
once c x = omega (arith, ints)

multiple_least : (input : Format) (c : ℤ) → IsLeastFormat ℤ (IsOf input) (λ x. x *ℤ c) (constant_format input c)
multiple_least input c =
    let below = (reach_of input).below in
    let above = (reach_of input).above in
    let r = reach_over input (c ∷ []) in
    let low = lowest below above c in
    let high = highest_for below above c in
    least_format (IsOf input) (λ x. x *ℤ c) r input.lsb
    (λ x is. subst (IsWithinReach r.below r.above) (once c x)
    (sum_within below above 0 (c ∷ []) (λ ago. x) (λ k. held-within input.signed input.width x is)))
    low high (within-held input.signed input.width low (lowest-within below above c))
    (within-held input.signed input.width high (highest-within below above c))
    (sym (once c low) ∙ sum_lowest below above 0 (c ∷ []) (λ ago. low) (λ k lt. ap (lowest below above) (first c k lt)))
    (sym (once c high) ∙ sum_highest below above 0 (c ∷ []) (λ ago. high) (λ k lt. ap (highest_for below above) (first c k lt)))

port_format : (input : Format) (n : ℕ) (cs : List ℤ) (k : ℕ) (c : ℤ) → slice_get cs k ≡ Some c
    → constant_format input c ≡ format_at (numbered n (map (constant_format input) cs)) k
port_format input n [] k c e = cc
port_format input n (d ∷ cs) zero c e = let same : c ≡ d = cc in ap (constant_format input) same
port_format input n (d ∷ cs) (suc k) c e = port_format input (n + 1) cs k c e

pub multiples_least : MultiplesAreLeast
multiples_least m k c e =
    subst (IsLeastFormat ℤ (IsOf m.input) (λ x. x *ℤ c)) (port_format m.input 0 m.constants k c e) (multiple_least m.input c)

-- transposed filters: the least and the greatest sum
module _ (f : Taps) where
  abbrev In : Recent → Type 0
  In x = (ago : ℕ) → IsOf f.input (x ago)

  abbrev below : ℕ
  below = (reach_of f.input).below

  abbrev above : ℕ
  above = (reach_of f.input).above

  abbrev low : Recent
  low k = lowest below above (get_or f.taps k (pos 0))

  abbrev high : Recent
  high k = highest_for below above (get_or f.taps k (pos 0))

  abbrev reach : Reach
  reach = reach_over f.input f.taps

  sums_within : (x : Recent) → In x → IsWithinReach reach.below reach.above (weighted f.taps x)
  sums_within x of = sum_within below above 0 f.taps x (λ k. held-within f.input.signed f.input.width (x k) (of k))

  low_in : In low
  low_in k = within-held f.input.signed f.input.width (low k) (lowest-within below above (get_or f.taps k (pos 0)))

  high_in : In high
  high_in k = within-held f.input.signed f.input.width (high k) (highest-within below above (get_or f.taps k (pos 0)))

  low_sum : weighted f.taps low ≡ neg_ℤ (pos reach.below)
  low_sum = sum_lowest below above 0 f.taps low (λ k lt. ap low (omega arith))

  high_sum : weighted f.taps high ≡ pos reach.above
  high_sum = sum_highest below above 0 f.taps high (λ k lt. ap high (omega arith))

  sums_least : IsLeastFormat Recent In (weighted f.taps) (covering reach f.input.lsb)
  sums_least = least_format In (weighted f.taps) reach f.input.lsb sums_within low high low_in high_in low_sum high_sum

  -- in units of the output's last place
  abbrev s : ℤ
  s = sum_shift (direct f)

  abbrev d : ℕ
  d = 1 * down s

  abbrev places : Reach
  places = in_places reach s (pos 1)

  some : 0 < d
  some = omega (arith, pow_pos (places_down s))

  faithful_within : (q : Recent × ℤ) → IsFaithful f q.0 q.1 → IsWithinReach places.below places.above q.1
  faithful_within (x, y) (of, good) =
      let sum = sums_within x of in
      rounded_within (weighted f.taps x *ℤ pos (up s)) (pos d) places.below places.above y (omega (arith, ints, some))
      (low_end (weighted f.taps x) reach.below reach.above (up s) d some sum.0)
      (high_end (weighted f.taps x) reach.below reach.above (up s) d some sum.1) good

  floor_good : IsFaithful f low (neg_ℤ (pos places.below))
  floor_good =
      let n = weighted f.taps low in
      let under = low_end n reach.below reach.above (up s) d some ((sums_within low low_in).0) in
      let near = least_end n reach.below reach.above (up s) d some low_sum in (
        low_in,
        within_one (n *ℤ pos (up s)) (pos d) (neg_ℤ (pos places.below)) (omega (arith, ints, some, under))
            (omega (arith, ints, near, product-sum (pos d) (neg_ℤ (pos places.below)) (pos 1))),
      )

  ceiling_good : IsFaithful f high (pos places.above)
  ceiling_good =
      let n = weighted f.taps high in
      let over = high_end n reach.below reach.above (up s) d some ((sums_within high high_in).1) in
      let near = greatest_end n reach.below reach.above (up s) d some high_sum in (
        high_in,
        within_one (n *ℤ pos (up s)) (pos d) (pos places.above)
            (omega (arith, ints, near, product-sum (pos d) (pos places.above) (neg_ℤ (pos 1))))
            (omega (arith, ints, some, over)),
      )

  faithful_least : IsLeastFormat (Recent × ℤ) (λ q. IsFaithful f q.0 q.1) (λ q. q.1) (taps_format f)
  faithful_least = least_format (λ q. IsFaithful f q.0 q.1) (λ q. q.1) places f.out_lsb faithful_within
      (low, neg_ℤ (pos places.below)) (high, pos places.above) floor_good ceiling_good refl refl

pub taps_least : TapsAreLeast
taps_least f = record {
  rounded = faithful_least f;
  whole = λ same. subst (IsLeastFormat Recent (In f) (weighted f.taps)) (sym (same_format f same)) (sums_least f);
}

-- beside direct ones
abbrev format_by : (input : Format) (out_lsb : ℤ) (coefs : List ℤ) (den : ℤ) → Format
format_by input out_lsb coefs den = covering (in_places (reach_over input coefs) (input.lsb -ℤ out_lsb) den) out_lsb

abbrev ratio_by : (input : Format) (out_lsb : ℤ) (coefs : List ℤ) (den : ℤ) (x : Recent) → Ratio
ratio_by input out_lsb coefs den x = weighted_value coefs den (input.lsb -ℤ out_lsb) x

pub taps_direct : TapsAreDirect
taps_direct f s is =
    let format : sum_format s ≡ taps_format f =
    ap (λ g. format_by g s.out_lsb s.coefs s.den) is.input
    ∙ ap (λ l. format_by f.input l s.coefs s.den) is.out_lsb
    ∙ ap (λ cs. format_by f.input f.out_lsb cs s.den) is.coefs
    ∙ ap (format_by f.input f.out_lsb f.taps) is.den in
    record {
      inputs = ap one_input (sym is.input);
      outputs = ap (λ g. port (codes "y") g ∷ []) (sym format);
      values = λ x. sym (
          ap (λ g. ratio_by g s.out_lsb s.coefs s.den x) is.input
          ∙ ap (λ l. ratio_by f.input l s.coefs s.den x) is.out_lsb
          ∙ ap (λ cs. ratio_by f.input f.out_lsb cs s.den x) is.coefs
          ∙ ap (λ d. ratio_by f.input f.out_lsb f.taps d x) is.den
          );
      whole = λ same. same_value f same;
    }
