-- The input and its delays: their number, widths and words, and the taps of the coefficients that are not 0.
use Rattle.std.proofs.Common.{◌≡◌, ℕ, zero, suc, ◌-◌, ◌<◌, ◌≤◌, inl, inr, Bool, true, false, List, [], ◌∷◌, length, length-append, get_or, refl, sym, ap, ◌∙◌, arith}
use Rattle.std.specs.Prelude.{ℤ, pos, negsuc, ◌-ℤ◌, slice_index, if◌then◌else◌}
use Rattle.std.proofs.lemmas.Bool.{cases_lt}
use Rattle.std.proofs.lemmas.Int.{ints}
use Rattle.opgen_net.specs.declared.node.Node.{Node}
use Rattle.opgen_net.specs.declared.node.Node.TheVariants.{Input, Delay}
use Rattle.opgen_net.specs.Delays.{delay_count}
use Rattle.opgen_net.specs.Flow.{Inputs, before, input_at, flow}
use Rattle.opgen_net.specs.Valid.{widths}
use Rattle.opgen_net.proofs.Appending.{flow-append_before, flow-append_last, width-append_before, width-append_last}
use Rattle.opgen_net.proofs.Delays.{delay_count-append}
use Rattle.opgen_fir.specs.Recipe.{is_zero, taps_within, delays}
use Rattle.opgen_fir.specs.Summed.{back}

before-is : (t : ℤ) → before t ≡ t -ℤ pos 1
before-is (pos zero) = refl
before-is (pos (suc t)) = omega (arith, ints)
before-is (negsuc t) = omega (arith, ints)

pub back-is : (k : ℕ) (t : ℤ) → back k t ≡ t -ℤ pos k
back-is zero t = omega (arith, ints)
back-is (suc k) t = omega (arith, ints, back-is k (before t), before-is t)

abbrev pub line : (width count : ℕ) → List Node
line width count = Input 0 width ∷ delays count

pub length-line : (width count : ℕ) → length (line width count) ≡ suc count
length-line width zero = refl
length-line width (suc k) = omega (arith, length-append (line width k) (Delay k ∷ []), length-line width k)

delays-count : (count : ℕ) → delay_count (delays count) ≡ count
delays-count zero = refl
delays-count (suc k) = omega (arith, delay_count-append (delays k) (Delay k ∷ []), delays-count k)

pub line-width : (width count k : ℕ) → k ≤ count → slice_index (widths (line width count)) k ≡ width
line-width width zero zero h = refl
line-width width zero (suc k) h = absurd (omega (arith, h))
line-width width (suc n) k h = elim (cases_lt k (suc n)) [
  | inl l ↦ width-append_before (line width n) (Delay n) k (omega (arith, l, length-line width n)) ∙ line-width width n k (omega (arith, l))
  | inr l ↦
      let at : k ≡ length (line width n) = omega (arith, h, l, length-line width n) in
      ap (λ i. slice_index (widths (line width (suc n))) i) at ∙ width-append_last (line width n) (Delay n)
      ∙ line-width width n n (omega arith)
]

pub line-flow : (width count k : ℕ) (inputs : Inputs) (t : ℤ) → k ≤ count
    → flow (line width count) inputs k t ≡ input_at inputs 0 width (back k t)
line-flow width zero zero inputs t h = refl
line-flow width zero (suc k) inputs t h = absurd (omega (arith, h))
line-flow width (suc n) k inputs t h = elim (cases_lt k (suc n)) [
  | inl l ↦ flow-append_before (line width n) (Delay n) inputs k t (omega (arith, l, length-line width n))
      ∙ line-flow width n k inputs t (omega (arith, l))
  | inr l ↦
      let at : k ≡ length (line width n) = omega (arith, h, l, length-line width n) in
      let last : k ≡ suc n = omega (arith, h, l) in
      ap (λ i. flow (line width (suc n)) inputs i t) at
      ∙ flow-append_last (line width n) (Delay n) inputs t
      ∙ line-flow width n n inputs (before t) (omega arith)
      ∙ ap (λ i. input_at inputs 0 width (back i t)) (sym last)
]

-- a coefficient that is not 0 has a tap
pub tap_within : (most k : ℕ) (coefs : List ℤ) → k < most → is_zero (get_or coefs k (pos 0)) ≡ false → k < taps_within most coefs
tap_within zero k coefs h some = absurd (omega (arith, h))
tap_within (suc m) k coefs h some = by (λ l. tap_within m k coefs l some) (is_zero (get_or coefs m (pos 0))) refl
  where
    by : (k < m → k < taps_within m coefs) → (b : Bool) → is_zero (get_or coefs m (pos 0)) ≡ b
        → k < (if b then taps_within m coefs else suc m)
    by fewer false e = h
    by fewer true e = elim (cases_lt k m) [
      | inl l ↦ fewer l
      | inr l ↦
          let at : k ≡ m = omega (arith, h, l) in
          let same : is_zero (get_or coefs k (pos 0)) ≡ true = ap (λ i. is_zero (get_or coefs i (pos 0))) at ∙ e in
          cc
    ]

-- no more taps than coefficients
taps-few : (most : ℕ) (coefs : List ℤ) → taps_within most coefs ≤ most
taps-few zero coefs = omega arith
taps-few (suc m) coefs = by (taps-few m coefs) (is_zero (get_or coefs m (pos 0)))
  where
    by : taps_within m coefs ≤ m → (b : Bool) → (if b then taps_within m coefs else suc m) ≤ suc m
    by fewer true = omega (arith, fewer)
    by fewer false = omega arith

-- the input is delayed by a cycle less than there are coefficients at most
pub delays-few : (coefs : List ℤ) → delay_count (delays (taps_within (length coefs) coefs - 1)) ≤ length coefs - 1
delays-few coefs =
    omega (arith, delays-count (taps_within (length coefs) coefs - 1), taps-few (length coefs) coefs)

-- fewer taps where the last coefficient is 0
pub taps-step : (k : ℕ) (coefs : List ℤ) → 0 < k → is_zero (get_or coefs (k - 1) (pos 0)) ≡ true
    → taps_within (k - 1) coefs ≡ taps_within k coefs
taps-step zero coefs h none = absurd (omega (arith, h))
taps-step (suc k) coefs h none =
    let e : suc k - 1 ≡ k = omega arith in
    let last : is_zero (get_or coefs k (pos 0)) ≡ true = ap (λ i. is_zero (get_or coefs i (pos 0))) (sym e) ∙ none in
    ap (λ n. taps_within n coefs) e ∙ ap (λ (b : Bool). if b then taps_within k coefs else suc k) (sym last)
