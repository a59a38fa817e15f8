-- The guard bits of an accepted sum: none where every term is whole, and never so many that the heap is too wide.
use Rattle.std.proofs.Common.{◌≡◌, ℕ, zero, suc, ◌+◌, ◌-◌, ◌*◌, ◌%◌, ◌^◌, ◌<◌, ◌≤◌, ◌⊎◌, inl, inr, Bool, true, false, not, cond, if◌then◌else◌, List, [], ◌∷◌, length, get_or, refl, ap, ◌∙◌, subst, arith}
use Rattle.std.specs.Prelude.{ℤ, pos, negsuc, neg_ℤ, ◌+ℤ◌, ◌*ℤ◌, ◌≤ℤ◌, unsigned_abs, Option, Some, None, nat_eq, nat_lt, is_none, slice_get, ◌==◌}
use Rattle.std.specs.Int.{div_ceil}
use Rattle.std.specs.List.{position_from}
use Rattle.std.proofs.Math.Nat.{mod-eq_of_lt, mul-le-mul_left, mul-le-mul_right}
use Rattle.std.proofs.lemmas.Bool.{cases_lt, eqb-true, le-ltb, not-false}
use Rattle.std.proofs.lemmas.Grind.{div_ceil_times}
use Rattle.std.proofs.lemmas.Int.{ints, unsigned_abs-mul}
use Rattle.std.proofs.Math.Nat.{zero-mod}
use Rattle.std.proofs.lemmas.Option.{slice_get-get_or}
use Rattle.opgen_num.specs.declared.format.Ratio.{Ratio}
use Rattle.opgen_num.proofs.BitLength.{power_order}
use Rattle.opgen_ports.specs.Reaches.{above_zero, below_zero, places_down, up, down, is_whole_at}
use Rattle.opgen_ports.proofs.Widths.{some_width, width_within}
use Rattle.opgen_terms.specs.declared.sop.TheConstants.{MAX_TOTAL_BITS, COUNTED_BITS}
use Rattle.opgen_terms.specs.declared.sop.Sop.{Sop}
use Rattle.opgen_terms.specs.declared.sop.Scaled.{Scaled}
use Rattle.opgen_terms.specs.declared.sop.Times.{Times}
use Rattle.opgen_terms.specs.Sop.{Term, IsSop, IsAcceptedSop, format_of, terms_of, term_at, scaled_term, times_term, offset_term, offset_terms, depth, raised, sop_reach, sop_places, sop_format, sop_inexact, sop_need, sop_meaning, sop_acceptance, total_bits, rounding_bits}
use Rattle.opgen_ports.proofs.Accepted.{accepted_width}
use Rattle.opgen_terms.proofs.Lawful.{accepted_sop, accepted_parts}
use Rattle.opgen_terms.proofs.EachTerm.{input_fits, scaled_place, times_place, offset_place, sized}
use Rattle.opgen_terms.proofs.AllTerms.{raised_small}
use Rattle.opgen_sop.specs.Sizes.{finer, fraction, is_rounded, lost, scaled_fraction, turned_fraction, offset_fraction, tables_of, tables_in, floors_of, floors_in, rows_cut, products, tables, floors, IsGuard}
use Rattle.opgen_sop.specs.Small.{units, IsSmallScaled, IsSmallTimes, IsSmallGuard}
use Rattle.opgen_sop.proofs.AcceptedTerms.{terms-count, below-is, above-is, small-terms}

-- whole terms

none-passes : (p : Term → Bool) (i : ℕ) (ts : List Term) (k : ℕ) (d : Term) → position_from p i ts ≡ None → k < length ts → p (get_or ts k d) ≡ false
none-passes p i [] k d e h = absurd (omega (arith, h))
none-passes p i (t ∷ ts) zero d e h = by (p t) e
  where
    by : (b : Bool) → cond b (Some i) (position_from p (i + 1) ts) ≡ None → b ≡ false
    by true g = cc
    by false g = refl
none-passes p i (t ∷ ts) (suc k) d e h = by (λ g. none-passes p (i + 1) ts k d g (omega (arith, h))) (p t) e
  where
    by : (position_from p (i + 1) ts ≡ None → p (get_or ts k d) ≡ false) → (b : Bool)
        → cond b (Some i) (position_from p (i + 1) ts) ≡ None → p (get_or ts k d) ≡ false
    by later true g = cc
    by later false g = later g

rounded-is : (d z c : ℤ) → is_rounded (fraction d z c) ≡ not (is_whole_at d z c)
rounded-is d z c =
    ap (λ n. not (n % unsigned_abs (d *ℤ pos (down z)) == 0)) (unsigned_abs-mul c (pos (up z)))
    ∙ ap (λ m. not ((unsigned_abs c * up z) % m == 0)) (unsigned_abs-mul d (pos (down z)))

no-guard : (z : ℤ) → finer 0 z ≡ z
no-guard z = omega (arith, ints)

lost-none : (q : Ratio) → is_rounded q ≡ false → lost q ≡ 0
lost-none q e = ap (λ (b : Bool). if b then 1 else 0) e

whole-shift : (d : ℕ) (z : ℤ) → 0 < d → (d * up z) % (d * down z) ≡ 0 → places_down z ≡ 0
whole-shift d (pos n) some e = refl
whole-shift d (negsuc n) some e =
    let one : d * up (negsuc n) ≡ d = omega arith in
    let two : 2 ≤ down (negsuc n) = omega (arith, power_order 1 (n + 1) (omega arith)) in
    let wide = mul-le-mul_left d two in
    let same : (d * up (negsuc n)) % (d * down (negsuc n)) ≡ d * up (negsuc n) = mod-eq_of_lt (omega (arith, one, wide, some)) in
    absurd (omega (arith, same, e, one, some))

rest-of-one : (n : ℕ) → n % 1 ≡ 0
rest-of-one n = omega arith

cut-none : (s : Sop) (t : Times) (guard : ℕ) → places_down (finer guard (times_term s t).shift) ≡ 0 → floors_of s guard t ≡ 0
cut-none s t guard none =
    let rows : rows_cut (products s guard t) (nat_eq t.a t.b) ≡ 0 = by (nat_eq t.a t.b) in
    let one : 2 ^ places_down (finer guard (times_term s t).shift) ≡ 1 = ap (λ k. 2 ^ k) none in
    let q = turned_fraction s guard t in
    let whole : is_rounded q ≡ false =
    ap (λ m. not (unsigned_abs q.num % m == 0)) one ∙ ap (λ n. not (n == 0)) (rest-of-one (unsigned_abs q.num)) in
    omega (arith, rows, lost-none q whole)
  where
    by : (b : Bool) → rows_cut (products s guard t) b ≡ 0
    by true = omega (arith, none)
    by false = omega (arith, none)

module _ (s : Sop) (sop : IsSop s) (none : sop_inexact s ≡ None) where
  whole-at : (k : ℕ) → k < length (terms_of s) → is_whole_at s.den (term_at s k).shift (term_at s k).factor ≡ true
  whole-at k here =
      not-false (is_whole_at s.den (term_at s k).shift (term_at s k).factor)
      (none-passes (λ (t : Term). not (is_whole_at s.den t.shift t.factor)) 0 (terms_of s) k (offset_term s) none here)

  whole-fraction : (t : Term) → is_whole_at s.den t.shift t.factor ≡ true → is_rounded (fraction s.den (finer 0 t.shift) t.factor) ≡ false
  whole-fraction t e =
      ap (λ z. is_rounded (fraction s.den z t.factor)) (no-guard t.shift) ∙ rounded-is s.den t.shift t.factor ∙ ap not e

  scaled-whole : (k : ℕ) (d : Scaled) → k < length s.scaled → tables_of s 0 (get_or s.scaled k d) ≡ 0
  scaled-whole k d here =
      let t = get_or s.scaled k d in
      let is = scaled_place s k t here (slice_get-get_or s.scaled k d here) in
      let whole = whole-fraction (scaled_term s t)
      (subst (λ (u : Term). is_whole_at s.den u.shift u.factor ≡ true) is (whole-at k (omega (arith, here, terms-count s sop)))) in
      tables-none t whole
    where
      tables-none : (t : Scaled) → is_rounded (scaled_fraction s 0 t) ≡ false → tables_of s 0 t ≡ 0
      tables-none t e = ap (λ (b : Bool). if b then div_ceil (format_of s t.input).width 6 else 0) e

  times-whole : (k : ℕ) (d : Times) → k < length s.products → floors_of s 0 (get_or s.products k d) ≡ 0
  times-whole k d here =
      let t = get_or s.products k d in
      let n = length s.scaled + k in
      let back : n - length s.scaled ≡ k = omega arith in
      let is = times_place s n t (omega arith) (omega (arith, here))
      (ap (slice_get s.products) back ∙ slice_get-get_or s.products k d here) in
      let whole = subst (λ (u : Term). is_whole_at s.den u.shift u.factor ≡ true) is (whole-at n (omega (arith, here, terms-count s sop))) in
      let z = (times_term s t).shift in
      let m = unsigned_abs s.den in
      let down_none = whole-shift m z (positive s.den sop.numbers.positive) (eqb-true ((m * up z) % (m * down z)) 0 whole) in
      cut-none s t 0 (ap places_down (no-guard z) ∙ down_none)
    where
      positive : (d : ℤ) → pos 1 ≤ℤ d → 0 < unsigned_abs d
      positive (pos n) h = omega (arith, ints, h)
      positive (negsuc n) h = absurd (omega (arith, ints, h))

  offset-whole : lost (offset_fraction s 0) ≡ 0
  offset-whole = by (nat_eq (unsigned_abs s.offset) 0) refl
    where
      by : (b : Bool) → nat_eq (unsigned_abs s.offset) 0 ≡ b → lost (offset_fraction s 0) ≡ 0
      by true e =
          let z = finer 0 (offset_term s).shift in
          let m = unsigned_abs (s.den *ℤ pos (down z)) in
          let nothing : unsigned_abs (s.offset *ℤ pos (up z)) ≡ 0 =
          unsigned_abs-mul s.offset (pos (up z)) ∙ ap (λ n. n * up z) (eqb-true (unsigned_abs s.offset) 0 e) ∙ omega arith in
          lost-none (offset_fraction s 0) (ap (λ n. not (n % m == 0)) nothing ∙ ap (λ n. not (n == 0)) (zero-mod m))
      by false e =
          let n = length s.scaled + length s.products in
          let one : length (offset_terms s) ≡ 1 = ap (λ (b : Bool). length (if b then [] else offset_term s ∷ [])) e in
          let is = offset_place s n (omega arith) (omega arith) in
          lost-none (offset_fraction s 0) (whole-fraction (offset_term s)
          (subst (λ (u : Term). is_whole_at s.den u.shift u.factor ≡ true) is (whole-at n (omega (arith, one, terms-count s sop)))))

  tables-whole : (ts : List Scaled) → ((k : ℕ) (d : Scaled) → k < length ts → tables_of s 0 (get_or ts k d) ≡ 0) → tables_in s 0 ts ≡ 0
  tables-whole [] each = refl
  tables-whole (t ∷ ts) each =
      omega (arith, each 0 t (omega arith), tables-whole ts (λ k d h. each (suc k) d (omega (arith, h))))

  floors-whole : (ts : List Times) → ((k : ℕ) (d : Times) → k < length ts → floors_of s 0 (get_or ts k d) ≡ 0) → floors_in s 0 ts ≡ 0
  floors-whole [] each = refl
  floors-whole (t ∷ ts) each =
      omega (arith, each 0 t (omega arith), floors-whole ts (λ k d h. each (suc k) d (omega (arith, h))))

  pub nothing-lost : (tables s 0 ≡ 0) × (floors s 0 ≡ 0)
  nothing-lost = (
    tables-whole s.scaled scaled-whole,
    omega (arith, floors-whole s.products times-whole, offset-whole),
  )

  pub no-guard-bits : (guard : ℕ) → IsGuard s guard → guard ≡ 0
  no-guard-bits guard is = omega (arith, is.least 0 (omega (arith, nothing-lost.0, nothing-lost.1)))

-- the width

small-ceiling : (n d : ℕ) → n ≤ 2 ^ MAX_TOTAL_BITS → 2 ^ 41 ≤ d → div_ceil n d < 2 ^ 72
small-ceiling n d few wide = by (cases_lt (div_ceil n d) (2 ^ 72))
  where
    above : div_ceil n d * d < n + d
    above = (div_ceil_times n d (omega (arith, wide))).1

    by : (div_ceil n d < 2 ^ 72 ⊎ 2 ^ 72 ≤ div_ceil n d) → div_ceil n d < 2 ^ 72
    by (inl h) = h
    by (inr h) =
        let one = mul-le-mul_right d h in
        absurd (omega (arith, above, one, few, wide))

ends : (z : ℤ) → (above_zero z ≤ unsigned_abs z) × (below_zero z ≤ unsigned_abs z)
ends (pos n) = (omega arith, omega arith)
ends (negsuc n) = (omega arith, omega arith)

module _ (s : Sop) (accepted : IsAcceptedSop s) where
  few-bits : total_bits s ≤ MAX_TOTAL_BITS
  few-bits = (accepted_parts s accepted).0

  -- where a place is deep, the output is narrow
  deep-narrow : 41 ≤ depth s → (sop_format s).width ≤ 74
  deep-narrow deep =
      let wide : 2 ^ 41 ≤ units s =
      omega (arith, power_order 41 (depth s) deep, mul-le-mul_right (2 ^ depth s) (positive s.den (accepted_sop s accepted).numbers.positive)) in
      let least = raised_small s (λ t. t.least) few-bits (λ k h. (sized s k (accepted_sop s accepted)).least) in
      let most = raised_small s (λ t. t.most) few-bits (λ k h. (sized s k (accepted_sop s accepted)).most) in
      let low : (sop_places s).below < 2 ^ 72 =
      omega (
        arith,
        below-is s (accepted_sop s accepted),
        small-ceiling (sop_reach s).below (units s) (omega (arith, least, (ends (raised s (λ t. t.least))).1)) wide,
      ) in
      let high : (sop_places s).above < 2 ^ 72 =
      omega (
        arith,
        above-is s (accepted_sop s accepted),
        small-ceiling (sop_reach s).above (units s) (omega (arith, most, (ends (raised s (λ t. t.most))).0)) wide,
      ) in
      omega (arith, width_within (sop_places s).below (sop_places s).above 72 low high)
    where
      positive : (d : ℤ) → pos 1 ≤ℤ d → 1 ≤ unsigned_abs d
      positive (pos n) h = omega (arith, ints, h)
      positive (negsuc n) h = absurd (omega (arith, ints, h))

  -- ten guard bits are enough where no place is deep

  shallow : (z : ℤ) → places_down z ≤ 40 → places_down (finer 10 z) ≤ 30
  shallow (pos n) h = omega arith
  shallow (negsuc n) h = by (negsuc n +ℤ pos 10) (omega (arith, ints, h))
    where
      by : (z : ℤ) → neg_ℤ (pos 30) ≤ℤ z → places_down z ≤ 30
      by (pos n) h = omega arith
      by (negsuc n) h = omega (arith, ints, h)

  lost-few : (q : Ratio) → lost q ≤ 1
  lost-few q = by (is_rounded q)
    where
      by : (b : Bool) → (if b then 1 else 0) ≤ 1
      by true = omega arith
      by false = omega arith

  floors-few : depth s ≤ 40 → (t : Times) → IsSmallTimes s t → floors_of s 10 t ≤ 31
  floors-few few t is = omega (arith, rows (nat_eq t.a t.b), lost-few (turned_fraction s 10 t))
    where
      left : (products s 10 t).left_out ≤ 30
      left = shallow (times_term s t).shift (omega (arith, is.small.deep, few))

      rows : (b : Bool) → rows_cut (products s 10 t) b ≤ 30
      rows true = omega (arith, left)
      rows false = omega (arith, left)

  tables-few : (t : Scaled) → IsSmallScaled s t → tables_of s 10 t ≤ 8
  tables-few t is = by (is_rounded (scaled_fraction s 10 t))
    where
      most : (format_of s t.input).width ≤ 48
      most = omega (arith, (input_fits s t.input (accepted_sop s accepted) is.ranged.input).most)

      by : (b : Bool) → (if b then div_ceil (format_of s t.input).width 6 else 0) ≤ 8
      by true = omega (arith, most)
      by false = omega arith

  all-tables : (ts : List Scaled) → ((k : ℕ) (d : Scaled) → k < length ts → IsSmallScaled s (get_or ts k d)) → tables_in s 10 ts ≤ 8 * length ts
  all-tables [] each = omega arith
  all-tables (t ∷ ts) each =
      omega (arith, tables-few t (each 0 t (omega arith)), all-tables ts (λ k d h. each (suc k) d (omega (arith, h))))

  all-floors : depth s ≤ 40 → (ts : List Times) → ((k : ℕ) (d : Times) → k < length ts → IsSmallTimes s (get_or ts k d))
      → floors_in s 10 ts ≤ 31 * length ts
  all-floors few [] each = omega arith
  all-floors few (t ∷ ts) each =
      omega (arith, floors-few few t (each 0 t (omega arith)), all-floors few ts (λ k d h. each (suc k) d (omega (arith, h))))

  ten : depth s ≤ 40 → tables s 10 + floors s 10 < 2 ^ 10
  ten few =
      let small = small-terms s accepted in
      omega (
        arith,
        all-tables s.scaled (λ k d h. small.scaled k d h),
        all-floors few s.products (λ k d h. small.products k d h),
        lost-few (offset_fraction s 10),
        (accepted_sop s accepted).terms.few_scaled,
        (accepted_sop s accepted).terms.few_products,
      )

  -- the bits of the output, and the ten below them where a term is rounded
  width-rounded : (sop_format s).width + rounding_bits s ≤ 96
  width-rounded =
      let within : sop_need s ≤ 96 = accepted_width (sop_meaning s) (sop_acceptance s) (sop_need s) accepted refl in
      let fits : nat_lt MAX_TOTAL_BITS (total_bits s) ≡ false = le-ltb MAX_TOTAL_BITS (total_bits s) few-bits in
      let all : (sop_format s).width + rounding_bits s ≤ 96 = rw fits at within in
      all

  pub small-guard : (guard : ℕ) → IsGuard s guard → guard ≤ 11 → IsSmallGuard s guard
  small-guard guard is few = record { few = few; some = some_width (sop_places s); narrow = by (sop_inexact s) refl (cases_lt 40 (depth s)) }
    where
      by : (o : Option ℕ) → sop_inexact s ≡ o → (40 < depth s ⊎ depth s ≤ 40) → (sop_format s).width + guard ≤ 96
      by None e c = omega (arith, width-rounded, no-guard-bits s (accepted_sop s accepted) e guard is)
      by (Some n) e (inl deep) = omega (arith, deep-narrow deep, few)
      by (Some n) e (inr flat) =
          let bits : rounding_bits s ≡ COUNTED_BITS = ap (λ (o : Option ℕ). if is_none o then 0 else COUNTED_BITS) e in
          omega (arith, width-rounded, bits, is.least 10 (ten flat))
