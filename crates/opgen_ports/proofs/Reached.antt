-- How far sums over inputs go, and the ends of fractions in units of the output's last place.
use Rattle.std.proofs.Common.{ℕ, ◌-◌, Bool, true, false, arith, ◌+◌, ◌*◌, ◌≤◌, ◌≡◌, zero, suc, List, [], ◌∷◌, map, ◌∙◌, ◌<◌, length, get_or, refl, ap, ◌/◌, ◌%◌, min, max, ◌^◌}
use Rattle.std.proofs.lemmas.Int.{ints}
use Rattle.std.proofs.lemmas.Nat.{pow_pos, div-add-mod'}
use Rattle.std.proofs.Math.Nat.{mul-le-mul, mod-lt, two-pow-succ, mul-le-mul_right}
use Rattle.std.specs.Int.{div_ceil}
use Rattle.std.specs.Prelude.{ℤ, pos, neg_ℤ, ◌≤ℤ◌, negsuc, ◌*ℤ◌, ◌+ℤ◌, ◌-ℤ◌, ◌<ℤ◌, unsigned_abs}
use Rattle.opgen_num.proofs.Integers.{product-sum, product_order}
use Rattle.opgen_num.specs.Formats.{Holds}
use Rattle.opgen_num.proofs.Lists.{sum-cons}
use Rattle.opgen_ports.specs.Reaches.{reach_with, above_zero, below_zero, rises, falls, up, in_units}
use Rattle.opgen_ports.specs.Ports.{Recent, weighted_from}

-- a number from -below to above
abbrev pub IsWithinReach : (below above : ℕ) → ℤ → Type 0
IsWithinReach below above n = (neg_ℤ (pos below) ≤ℤ n) × (n ≤ℤ pos above)

pub held-within : (signed : Bool) (width : ℕ) (n : ℤ) → Holds signed width n
    → IsWithinReach (reach_with signed width).below (reach_with signed width).above n
held-within false width n (low, high) = (omega (arith, ints), omega (arith, ints, pow_pos width))
held-within true width n (low, high) = (omega (arith, ints), omega (arith, ints, pow_pos (width - 1)))

pub within-held : (signed : Bool) (width : ℕ) (n : ℤ) → IsWithinReach (reach_with signed width).below (reach_with signed width).above n
    → Holds signed width n
within-held false width n (low, high) = (omega (arith, ints), omega (arith, ints, pow_pos width))
within-held true width n (low, high) = (omega (arith, ints), omega (arith, ints, pow_pos (width - 1)))

-- how far the numbers of a format go, below zero and above it
pub reach-span : (signed : Bool) (width : ℕ) → 1 ≤ width → (reach_with signed width).below + (reach_with signed width).above + 1 ≡ 2 ^ width
reach-span true zero h = absurd (omega (arith, h))
reach-span true (suc w) h =
    let e : suc w - 1 ≡ w = omega arith in
    omega (arith, two-pow-succ w, ap (λ n. 2 ^ n) e, pow_pos w)
reach-span false w h = omega (arith, pow_pos w)

-- the parts of a number below zero and above it
pub abs-parts : (z : ℤ) → above_zero z + below_zero z ≡ unsigned_abs z
abs-parts (pos n) = omega arith
abs-parts (negsuc n) = omega arith

pub parts-below : (z : ℤ) → neg_ℤ (pos (below_zero z)) ≤ℤ z
parts-below (pos n) = omega (arith, ints)
parts-below (negsuc n) = omega (arith, ints)

pub parts-above : (z : ℤ) → z ≤ℤ pos (above_zero z)
parts-above (pos n) = omega (arith, ints)
parts-above (negsuc n) = omega (arith, ints)

-- a number times a coefficient
term : (y c : ℤ) (below above : ℕ) → IsWithinReach below above y
    → IsWithinReach (above_zero c * below + below_zero c * above) (above_zero c * above + below_zero c * below) (y *ℤ c)
term (pos m) (pos n) below above (low, high) =
    let most : m * n ≤ above * n = mul-le-mul {n₁ = m} {m₁ = n} {n₂ = above} {m₂ = n} (omega (arith, ints)) (omega arith) in
    (omega (arith, ints), omega (arith, ints))
term (pos m) (negsuc n) below above (low, high) =
    let most : m * (n + 1) ≤ above * (n + 1) = mul-le-mul {n₁ = m} {m₁ = n + 1} {n₂ = above} {m₂ = n + 1} (omega (arith, ints))
    (omega arith) in
    (omega (arith, ints), omega (arith, ints))
term (negsuc m) (pos n) below above (low, high) =
    let most : (m + 1) * n ≤ below * n = mul-le-mul {n₁ = m + 1} {m₁ = n} {n₂ = below} {m₂ = n} (omega (arith, ints)) (omega arith) in
    (omega (arith, ints), omega (arith, ints))
term (negsuc m) (negsuc n) below above (low, high) =
    let most : (m + 1) * (n + 1) ≤ below * (n + 1) = mul-le-mul {n₁ = m + 1} {m₁ = n + 1} {n₂ = below} {m₂ = n + 1} (omega (arith, ints))
    (omega arith) in
    (omega (arith, ints), omega (arith, ints))

-- products with a number below 0
pub neg-right : (d n : ℕ) → pos d *ℤ neg_ℤ (pos n) ≡ neg_ℤ (pos (d * n))
neg-right d zero = omega (arith, ints)
neg-right d (suc n) = omega (arith, ints)

pub neg-left : (n d : ℕ) → neg_ℤ (pos n) *ℤ pos d ≡ neg_ℤ (pos (n * d))
neg-left zero d = omega (arith, ints)
neg-left (suc n) d = omega (arith, ints)

pub neg-both : (n d : ℕ) → neg_ℤ (pos n) *ℤ negsuc d ≡ pos (n * (d + 1))
neg-both zero d = omega (arith, ints)
neg-both (suc n) d = omega (arith, ints)

-- the sums of coefficients, one after the other
pub rises-cons : (c : ℤ) (cs : List ℤ) → rises (c ∷ cs) ≡ above_zero c + rises cs
rises-cons c cs = sum-cons (above_zero c) (map above_zero cs)

pub falls-cons : (c : ℤ) (cs : List ℤ) → falls (c ∷ cs) ≡ below_zero c + falls cs
falls-cons c cs = sum-cons (below_zero c) (map below_zero cs)

module _ (below above : ℕ) where
  pub sum_within : (ago : ℕ) (coefs : List ℤ) (x : Recent) → ((k : ℕ) → IsWithinReach below above (x k))
      → IsWithinReach (rises coefs * below + falls coefs * above) (rises coefs * above + falls coefs * below) (weighted_from ago coefs x)
  sum_within ago [] x h = (omega (arith, ints), omega (arith, ints))
  sum_within ago (c ∷ cs) x h =
      let first = term (x ago) c below above (h ago) in
      let rest = sum_within (ago + 1) cs x h in
      let whole : weighted_from ago (c ∷ cs) x ≡ (x ago *ℤ c) +ℤ weighted_from (ago + 1) cs x = refl in
      let rise : rises (c ∷ cs) ≡ above_zero c + rises cs = rises-cons c cs in
      let fall : falls (c ∷ cs) ≡ below_zero c + falls cs = falls-cons c cs in
      rw (rise, fall, whole) (omega (arith, ints, first.0, rest.0), omega (arith, ints, first.1, rest.1))

  -- the inputs of the least sum, and of the greatest
  abbrev pub lowest : ℤ → ℤ
  lowest (pos n) = neg_ℤ (pos below)
  lowest (negsuc n) = pos above

  abbrev pub highest_for : ℤ → ℤ
  highest_for (pos n) = pos above
  highest_for (negsuc n) = neg_ℤ (pos below)

  pub lowest-within : (c : ℤ) → IsWithinReach below above (lowest c)
  lowest-within (pos n) = (omega (arith, ints), omega (arith, ints))
  lowest-within (negsuc n) = (omega (arith, ints), omega (arith, ints))

  pub highest-within : (c : ℤ) → IsWithinReach below above (highest_for c)
  highest-within (pos n) = (omega (arith, ints), omega (arith, ints))
  highest-within (negsuc n) = (omega (arith, ints), omega (arith, ints))

  lowest-term : (c : ℤ) → lowest c *ℤ c ≡ neg_ℤ (pos (above_zero c * below + below_zero c * above))
  lowest-term (pos n) = omega (arith, ints, neg-left below n)
  lowest-term (negsuc n) = omega (arith, ints)

  highest-term : (c : ℤ) → highest_for c *ℤ c ≡ pos (above_zero c * above + below_zero c * below)
  highest-term (pos n) = omega (arith, ints)
  highest-term (negsuc n) = omega (arith, ints, neg-both below n)

  pub sum_lowest : (ago : ℕ) (coefs : List ℤ) (x : Recent) → ((k : ℕ) → k < length coefs → x (ago + k) ≡ lowest (get_or coefs k (pos 0)))
      → weighted_from ago coefs x ≡ neg_ℤ (pos (rises coefs * below + falls coefs * above))
  sum_lowest ago [] x h = omega (arith, ints)
  sum_lowest ago (c ∷ cs) x h =
      let here : x ago ≡ lowest c = ap x (omega arith) ∙ h 0 (omega arith) in
      let first : x ago *ℤ c ≡ neg_ℤ (pos (above_zero c * below + below_zero c * above)) = ap (λ y. y *ℤ c) here ∙ lowest-term c in
      let rest = sum_lowest (ago + 1) cs x (λ k lt. ap x (omega arith) ∙ h (suc k) (omega arith)) in
      let whole : weighted_from ago (c ∷ cs) x ≡ (x ago *ℤ c) +ℤ weighted_from (ago + 1) cs x = refl in
      let rise : rises (c ∷ cs) ≡ above_zero c + rises cs = rises-cons c cs in
      let fall : falls (c ∷ cs) ≡ below_zero c + falls cs = falls-cons c cs in
      rw (rise, fall, whole) (omega (arith, ints, first, rest))

  pub sum_highest : (ago : ℕ) (coefs : List ℤ) (x : Recent) → ((k : ℕ) → k < length coefs → x (ago + k) ≡ highest_for (get_or coefs k (pos 0)))
      → weighted_from ago coefs x ≡ pos (rises coefs * above + falls coefs * below)
  sum_highest ago [] x h = omega (arith, ints)
  sum_highest ago (c ∷ cs) x h =
      let here : x ago ≡ highest_for c = ap x (omega arith) ∙ h 0 (omega arith) in
      let first : x ago *ℤ c ≡ pos (above_zero c * above + below_zero c * below) = ap (λ y. y *ℤ c) here ∙ highest-term c in
      let rest = sum_highest (ago + 1) cs x (λ k lt. ap x (omega arith) ∙ h (suc k) (omega arith)) in
      let whole : weighted_from ago (c ∷ cs) x ≡ (x ago *ℤ c) +ℤ weighted_from (ago + 1) cs x = refl in
      let rise : rises (c ∷ cs) ≡ above_zero c + rises cs = rises-cons c cs in
      let fall : falls (c ∷ cs) ≡ below_zero c + falls cs = falls-cons c cs in
      rw (rise, fall, whole) (omega (arith, ints, first, rest))

-- a product of two numbers
module _ (below above under over : ℕ) where
  pub product_span : (a b : ℤ) → IsWithinReach below above a → IsWithinReach under over b
      → IsWithinReach (max (below * over) (above * under)) (max (above * over) (below * under)) (a *ℤ b)
  product_span (pos m) (pos n) (low, high) (left, right) =
      let most : m * n ≤ above * over = mul-le-mul {n₁ = m} {m₁ = n} {n₂ = above} {m₂ = over} (omega (arith, ints)) (omega (arith, ints)) in
      (omega (arith, ints), omega (arith, ints))
  product_span (pos m) (negsuc n) (low, high) (left, right) =
      let most : m * (n + 1) ≤ above * under = mul-le-mul {n₁ = m} {m₁ = n + 1} {n₂ = above} {m₂ = under} (omega (arith, ints))
      (omega (arith, ints)) in
      (omega (arith, ints), omega (arith, ints))
  product_span (negsuc m) (pos n) (low, high) (left, right) =
      let most : (m + 1) * n ≤ below * over = mul-le-mul {n₁ = m + 1} {m₁ = n} {n₂ = below} {m₂ = over} (omega (arith, ints))
      (omega (arith, ints)) in
      (omega (arith, ints), omega (arith, ints))
  product_span (negsuc m) (negsuc n) (low, high) (left, right) =
      let most : (m + 1) * (n + 1) ≤ below * under = mul-le-mul {n₁ = m + 1} {m₁ = n + 1} {n₂ = below} {m₂ = under} (omega (arith, ints))
      (omega (arith, ints)) in
      (omega (arith, ints), omega (arith, ints))

commuted : (n : ℤ) (k : ℕ) → pos k *ℤ n ≡ n *ℤ pos k
commuted (pos n) k = omega (arith, ints)
commuted (negsuc n) k = omega (arith, ints)

-- rounded up
pub ceiling : (n d : ℕ) → 0 < d → (n ≤ d * div_ceil n d) × (d * div_ceil n d < n + d)
ceiling n d h = go (n % d) refl
  where
    go : (r : ℕ) → n % d ≡ r → (n ≤ d * (n / d + min 1 (n % d))) × (d * (n / d + min 1 (n % d)) < n + d)
    go zero e = rw e (omega (arith, div-add-mod' n d, e, h), omega (arith, div-add-mod' n d, e, h))
    go (suc r) e =
        let one : min 1 (suc r) ≡ 1 = omega arith in
        rw (e, one) (omega (arith, div-add-mod' n d, mod-lt n h, e), omega (arith, div-add-mod' n d, mod-lt n h, e))

module _ (n : ℤ) (below above scale d : ℕ) (some : 0 < d) where
  pub low_end : neg_ℤ (pos below) ≤ℤ n → (pos d *ℤ neg_ℤ (pos (div_ceil (below * scale) d))) ≤ℤ (n *ℤ pos scale)
  low_end h =
      let (up, _) = ceiling (below * scale) d some in
      let order = product_order (pos scale) (neg_ℤ (pos below)) n (omega (arith, ints)) h in
      omega (arith, ints, order, up, neg-right d (div_ceil (below * scale) d), neg-right scale below, commuted n scale)

  pub high_end : n ≤ℤ pos above → (n *ℤ pos scale) ≤ℤ (pos d *ℤ pos (div_ceil (above * scale) d))
  high_end h =
      let (up, _) = ceiling (above * scale) d some in
      let order = product_order (pos scale) n (pos above) (omega (arith, ints)) h in
      omega (arith, ints, order, up, commuted n scale)

  pub least_end : n ≡ neg_ℤ (pos below) → (n *ℤ pos scale) <ℤ (pos d *ℤ (neg_ℤ (pos (div_ceil (below * scale) d)) +ℤ pos 1))
  least_end h =
      let (_, close) = ceiling (below * scale) d some in
      omega (
        arith,
        ints,
        ap (λ y. y *ℤ pos scale) h,
        close,
        neg-left below scale,
        neg-right d (div_ceil (below * scale) d),
        product-sum (pos d) (neg_ℤ (pos (div_ceil (below * scale) d))) (pos 1),
      )

  pub greatest_end : n ≡ pos above → (pos d *ℤ (pos (div_ceil (above * scale) d) -ℤ pos 1)) <ℤ (n *ℤ pos scale)
  greatest_end h =
      let (_, close) = ceiling (above * scale) d some in
      omega (
        arith,
        ints,
        ap (λ y. y *ℤ pos scale) h,
        close,
        neg-right d 1,
        product-sum (pos d) (pos (div_ceil (above * scale) d)) (neg_ℤ (pos 1)),
      )

-- a number that is not shifted up is no greater in units of the output's last place
pub lowered_units : (n : ℕ) (s : ℤ) → s ≤ℤ pos 0 → in_units n s (pos 1) ≤ n
lowered_units n (pos zero) high =
    let (_, close) = ceiling (n * 1) 1 (omega arith) in
    omega (arith, close)
lowered_units n (pos (suc k)) high = absurd (omega (arith, ints))
lowered_units n (negsuc k) high =
    let d = 1 * 2 ^ (k + 1) in
    let (_, close) = ceiling (n * 1) d (omega (arith, pow_pos (k + 1))) in
    below (div_ceil (n * 1) d) d (omega (arith, pow_pos (k + 1))) (omega (arith, close))
  where
    below : (c d : ℕ) → 1 ≤ d → d * c < n + d → c ≤ n
    below zero d some close = omega arith
    below (suc c) zero some close = absurd (omega (arith, some))
    below (suc c) (suc d) some close =
        let least : 1 * c ≤ suc d * c = mul-le-mul_right c (omega arith) in
        omega (arith, close, least)
