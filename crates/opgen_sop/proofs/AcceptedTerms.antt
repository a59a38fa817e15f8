-- The terms of an accepted sum have room, and their tables are no wider than the heap.
use Rattle.std.proofs.Common.{◌≡◌, ℕ, zero, suc, ◌+◌, ◌-◌, ◌*◌, ◌^◌, ◌<◌, ◌≤◌, Bool, false, if◌then◌else◌, List, [], ◌∷◌, ◌++◌, length, length-append, map, get_or, pow-add, ap, ◌∙◌, subst, arith}
use Rattle.std.specs.Prelude.{ℤ, pos, neg_ℤ, ◌-ℤ◌, ◌*ℤ◌, ◌≤ℤ◌, unsigned_abs, nat_eq, slice_get}
use Rattle.std.proofs.Math.Nat.{mul-le-mul_left, mul-le-mul_right, mul-pos}
use Rattle.std.proofs.lemmas.Grind.{div_ceil_times}
use Rattle.std.proofs.lemmas.Int.{ints}
use Rattle.std.proofs.lemmas.List.{length-map}
use Rattle.std.proofs.lemmas.Nat.{pow_pos}
use Rattle.std.proofs.lemmas.Option.{slice_get-get_or}
use Rattle.opgen_num.specs.Formats.{digit_count}
use Rattle.opgen_num.proofs.BitLength.{power_order}
use Rattle.opgen_num.proofs.Integers.{product_order, commuted}
use Rattle.opgen_num.proofs.RangeWidth.{count-holds, digits-some, width-span}
use Rattle.opgen_num.proofs.Lists.{sum-cons}
use Rattle.std.specs.Int.{div_ceil}
use Rattle.opgen_ports.specs.Ranges.{IsInput}
use Rattle.opgen_ports.specs.Reaches.{reach_of, reach_over, above_zero, below_zero, rises, falls, in_units, places_down, down}
use Rattle.opgen_ports.proofs.InputPorts.{input_bit}
use Rattle.opgen_ports.proofs.Reached.{abs-parts, reach-span, parts-above, parts-below}
use Rattle.opgen_ports.proofs.Bounds.{some_units}
use Rattle.opgen_terms.specs.declared.sop.Sop.{Sop}
use Rattle.opgen_terms.specs.declared.sop.Scaled.{Scaled}
use Rattle.opgen_terms.specs.declared.sop.Times.{Times}
use Rattle.opgen_terms.specs.Sop.{Term, IsSop, IsAcceptedSop, format_of, terms_of, term_at, scaled_term, times_term, offset_term, offset_terms, total, depth, height, raised, sop_reach, sop_places, sop_format}
use Rattle.opgen_terms.proofs.Lawful.{accepted_sop, accepted_shifts, accepted_parts}
use Rattle.opgen_terms.proofs.EachTerm.{input_fits, scaled_place, times_place, offset_place, each_term}
use Rattle.opgen_terms.proofs.AllTerms.{greatest_above, total_order, small_shift, bits_of, up_of_down, down_of_down}
use Rattle.opgen_sop.specs.Small.{units, IsSmall, IsSmallScaled, IsSmallTimes, HasSmallTerms}

-- the gap of one of two sums is no greater than that of the sums
gap-within : (f g : Term → ℤ) (ts : List Term) (d : Term) (k : ℕ) → ((i : ℕ) → i < length ts → f (get_or ts i d) ≤ℤ g (get_or ts i d))
    → k < length ts → (g (get_or ts k d) -ℤ f (get_or ts k d)) ≤ℤ (total g ts -ℤ total f ts)
gap-within f g [] d k each h = absurd (omega (arith, h))
gap-within f g (t ∷ ts) d zero each h =
    omega (arith, ints, total_order f g ts d (λ i here. each (suc i) (omega (arith, here))))
gap-within f g (t ∷ ts) d (suc k) each h =
    omega (arith, ints, each 0 (omega arith), gap-within f g ts d k (λ i here. each (suc i) (omega (arith, here))) (omega (arith, h)))

pub units-some : (s : Sop) → IsSop s → 0 < units s
units-some s sop = mul-pos {m = unsigned_abs s.den} {n = 2 ^ depth s} (some_units s.den sop.numbers.positive) (pow_pos (depth s))

-- the ends of a term are in order
ordered : (s : Sop) → IsSop s → (k : ℕ) → (term_at s k).least ≤ℤ (term_at s k).most
ordered s sop k =
    each_term (λ (t : Term). t.least ≤ℤ t.most) s sop (λ t is. omega (arith, ints))
    (λ t is. product_order s.den _ _ (omega (arith, ints, sop.numbers.positive)) (omega (arith, ints))) (omega (arith, ints)) k

module _ (s : Sop) (sop : IsSop s) where
  pub terms-count : length (terms_of s) ≡ length s.scaled + (length s.products + length (offset_terms s))
  terms-count =
      omega (
        arith,
        length-append (map (scaled_term s) s.scaled) (map (times_term s) s.products ++ offset_terms s),
        length-append (map (times_term s) s.products) (offset_terms s),
        length-map s.scaled (scaled_term s),
        length-map s.products (times_term s),
      )

  ceiling-is : (n : ℕ) → in_units n (neg_ℤ (pos (depth s))) s.den ≡ div_ceil n (units s)
  ceiling-is n =
      let m = neg_ℤ (pos (depth s)) in
      let one : n * 1 ≡ n = omega arith in
      ap (λ k. div_ceil (n * k) (unsigned_abs s.den * down m)) (up_of_down (depth s))
      ∙ ap (λ k. div_ceil (n * 1) (unsigned_abs s.den * k)) (down_of_down (depth s))
      ∙ ap (λ k. div_ceil k (units s)) one

  pub below-is : (sop_places s).below ≡ div_ceil (sop_reach s).below (units s)
  below-is = ceiling-is (sop_reach s).below

  pub above-is : (sop_places s).above ≡ div_ceil (sop_reach s).above (units s)
  above-is = ceiling-is (sop_reach s).above

  -- in units of the deepest place, the range of the sum is no wider than that of the output
  range-within : (raised s (λ t. t.most) -ℤ raised s (λ t. t.least)) ≤ℤ pos (units s * (2 ^ (sop_format s).width - 1))
  range-within =
      let r = sop_reach s in
      let p = sop_places s in
      let some = units-some s sop in
      let low : r.below ≤ div_ceil r.below (units s) * units s = (div_ceil_times r.below (units s) some).0 in
      let high : r.above ≤ div_ceil r.above (units s) * units s = (div_ceil_times r.above (units s) some).0 in
      let low_places : r.below ≤ units s * p.below = omega (arith, low, ap (λ k. units s * k) below-is) in
      let high_places : r.above ≤ units s * p.above = omega (arith, high, ap (λ k. units s * k) above-is) in
      let span : p.below + p.above ≤ 2 ^ (sop_format s).width - 1 = omega (arith, width-span p.below p.above) in
      let limit = mul-le-mul_left (units s) span in
      omega (arith, ints, parts-above (raised s (λ t. t.most)), parts-below (raised s (λ t. t.least)), limit, low_places, high_places)

  pub term-gap : (k : ℕ) → k < length (terms_of s)
      → (((term_at s k).most *ℤ pos (2 ^ height s (term_at s k))) -ℤ ((term_at s k).least *ℤ pos (2 ^ height s (term_at s k))))
      ≤ℤ pos (units s * (2 ^ (sop_format s).width - 1))
  term-gap k here =
      let f : Term → ℤ = λ t. t.least *ℤ pos (2 ^ height s t) in
      let g : Term → ℤ = λ t. t.most *ℤ pos (2 ^ height s t) in
      let each : (i : ℕ) → i < length (terms_of s) → f (term_at s i) ≤ℤ g (term_at s i) =
      λ i h.
      let H = pos (2 ^ height s (term_at s i)) in
      let order = product_order H (term_at s i).least (term_at s i).most (omega (arith, ints)) (ordered s sop i) in
      omega (arith, ints, order, commuted (term_at s i).least H, commuted (term_at s i).most H) in
      let within = gap-within f g (terms_of s) (offset_term s) k each here in
      omega (arith, ints, within, range-within)

-- a constant times an input goes from end to end
scaled-narrow : (s : Sop) (t : Scaled) (n : ℕ) → IsInput (format_of s t.input)
    → (((scaled_term s t).most *ℤ pos (2 ^ height s (scaled_term s t))) -ℤ ((scaled_term s t).least *ℤ pos (2 ^ height s (scaled_term s t)))) ≤ℤ pos n
    → unsigned_abs t.coefficient * (2 ^ (format_of s t.input).width - 1) * 2 ^ height s (scaled_term s t) ≤ n
scaled-narrow s t n input h =
    let f = format_of s t.input in
    let c = t.coefficient in
    let r = reach_of f in
    let H = 2 ^ height s (scaled_term s t) in
    let o = reach_over f (c ∷ []) in
    let ups : rises (c ∷ []) ≡ above_zero c + 0 = sum-cons (above_zero c) [] in
    let downs : falls (c ∷ []) ≡ below_zero c + 0 = sum-cons (below_zero c) [] in
    let span : r.below + r.above ≡ 2 ^ f.width - 1 = omega (arith, reach-span f.signed f.width (input_bit f input)) in
    let b : o.below ≡ above_zero c * r.below + below_zero c * r.above =
    ap (λ k. k * r.below + falls (c ∷ []) * r.above) (ups ∙ omega arith) ∙ ap (λ k. above_zero c * r.below + k * r.above) (downs ∙ omega arith) in
    let a : o.above ≡ above_zero c * r.above + below_zero c * r.below =
    ap (λ k. k * r.above + falls (c ∷ []) * r.below) (ups ∙ omega arith) ∙ ap (λ k. above_zero c * r.above + k * r.below) (downs ∙ omega arith) in
    let whole : o.above + o.below ≡ unsigned_abs c * (2 ^ f.width - 1) =
    omega (arith, a, b) ∙ ap (λ k. k * (r.below + r.above)) (abs-parts c) ∙ ap (λ k. unsigned_abs c * k) span in
    let gap : (pos o.above *ℤ pos H) -ℤ (neg_ℤ (pos o.below) *ℤ pos H) ≡ pos ((o.above + o.below) * H) = apart o.above o.below H in
    omega (arith, ints, h, gap, ap (λ k. k * H) whole)
  where
    apart : (a b h : ℕ) → (pos a *ℤ pos h) -ℤ (neg_ℤ (pos b) *ℤ pos h) ≡ pos ((a + b) * h)
    apart a zero h = omega (arith, ints)
    apart a (suc b) h = omega (arith, ints)

module _ (s : Sop) (accepted : IsAcceptedSop s) where
  pub term-small : (k : ℕ) → k < length (terms_of s) → IsSmall s (term_at s k)
  term-small k here = record {
    shift = small_shift s k (accepted_shifts s accepted) here;
    deep = greatest_above (λ (t : Term). places_down t.shift) (terms_of s) k (offset_term s) here;
    size =
        let t = term_at s k in
        let few = (accepted_parts s accepted).0 in
        let most = greatest_above (bits_of s) (terms_of s) k (offset_term s) here in
        let one = digits-some (length (terms_of s)) (omega (arith, here)) in
        let power : 2 ^ (digit_count t.size + height s t) ≤ 2 ^ 111 =
        power_order (digit_count t.size + height s t) 111 (omega (arith, few, most, one)) in
        let below : t.size ≤ 2 ^ digit_count t.size = omega (arith, count-holds t.size) in
        let raised = mul-le-mul_right (2 ^ height s t) below in
        omega (arith, raised, power, pow-add 2 (digit_count t.size) (height s t));
  }

  scaled-at : (k : ℕ) (d : Scaled) → k < length s.scaled → IsSmallScaled s (get_or s.scaled k d)
  scaled-at k d here =
      let t = get_or s.scaled k d in
      let place : k < length (terms_of s) = omega (arith, here, terms-count s (accepted_sop s accepted)) in
      let is = scaled_place s k t here (slice_get-get_or s.scaled k d here) in
      let ranged = (accepted_sop s accepted).terms.scaled k d here in
      record {
        ranged = ranged;
        small = subst (IsSmall s) is (term-small k place);
        narrow = scaled-narrow s t (units s * (2 ^ (sop_format s).width - 1)) (input_fits s t.input (accepted_sop s accepted) ranged.input)
            (subst (λ (u : Term). ((u.most *ℤ pos (2 ^ height s u)) -ℤ (u.least *ℤ pos (2 ^ height s u)))
            ≤ℤ pos (units s * (2 ^ (sop_format s).width - 1))) is (term-gap s (accepted_sop s accepted) k place));
      }

  times-at : (k : ℕ) (d : Times) → k < length s.products → IsSmallTimes s (get_or s.products k d)
  times-at k d here =
      let t = get_or s.products k d in
      let n = length s.scaled + k in
      let back : n - length s.scaled ≡ k = omega arith in
      let place : n < length (terms_of s) = omega (arith, here, terms-count s (accepted_sop s accepted)) in
      let is = times_place s n t (omega arith) (omega (arith, here))
      (ap (slice_get s.products) back ∙ slice_get-get_or s.products k d here) in
      record { ranged = (accepted_sop s accepted).terms.products k d here; small = subst (IsSmall s) is (term-small n place) }

  offset-at : nat_eq (unsigned_abs s.offset) 0 ≡ false → places_down (offset_term s).shift ≤ depth s
  offset-at some =
      let n = length s.scaled + length s.products in
      let one : length (offset_terms s) ≡ 1 = ap (λ (b : Bool). length (if b then [] else offset_term s ∷ [])) some in
      let place : n < length (terms_of s) = omega (arith, one, terms-count s (accepted_sop s accepted)) in
      let is = offset_place s n (omega arith) (omega arith) in
      subst (λ (t : Term). places_down t.shift ≤ depth s) is (term-small n place).deep

  pub small-terms : HasSmallTerms s
  small-terms = record { scaled = λ k d h. scaled-at k d h; products = λ k d h. times-at k d h; offset = offset-at }
