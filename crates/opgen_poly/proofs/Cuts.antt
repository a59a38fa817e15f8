-- The greatest number of columns that weigh at most half a unit.
use Rattle.std.proofs.Common.{◌≡◌, ℕ, zero, suc, ◌+◌, ◌-◌, ◌^◌, ◌<◌, ◌≤◌, Bool, if◌then◌else◌, ⊎_elim, sym, ap, subst, arith}
use Rattle.std.proofs.lemmas.Bool.{cases_lt, le-leb, lt-leb}
use Rattle.opgen_budget.specs.Columns.{weight_below, IsGreatestCut}
use Rattle.opgen_budget.proofs.Weights.{weight_below-zero}
use Rattle.opgen_poly.specs.Recipe.{greatest_light, left_out, LeavesOutMost}

module _ (m n limit : ℕ) where
  abbrev chosen : (k : ℕ) → Bool → ℕ
  chosen k b = if b then suc k else greatest_light m n limit k

  heavy-next : (k : ℕ) → limit < weight_below m n (suc k) → greatest_light m n limit (suc k) ≡ greatest_light m n limit k
  heavy-next k h = ap (chosen k) (lt-leb (weight_below m n (suc k)) limit h)

  light-next : (k : ℕ) → weight_below m n (suc k) ≤ limit → greatest_light m n limit (suc k) ≡ suc k
  light-next k h = ap (chosen k) (le-leb (weight_below m n (suc k)) limit h)

  -- it is light
  greatest-light : (most : ℕ) → weight_below m n (greatest_light m n limit most) ≤ limit
  greatest-light zero = omega (arith, weight_below-zero m n)
  greatest-light (suc k) =
      ⊎_elim
      (λ (h : limit < weight_below m n (suc k)). subst (λ c. weight_below m n c ≤ limit) (sym (heavy-next k h)) (greatest-light k))
      (λ (h : weight_below m n (suc k) ≤ limit). subst (λ c. weight_below m n c ≤ limit) (sym (light-next k h)) h)
      (cases_lt limit (weight_below m n (suc k)))

  -- a lighter number of columns is less than a heavier one
  lighter-less : (k c : ℕ) → limit < weight_below m n (suc k) → c ≤ suc k → weight_below m n c ≤ limit → c ≤ k
  lighter-less k c h few light =
      ⊎_elim
      (λ (over : k < c).
      let all : c ≡ suc k = omega (arith, few, over) in
      absurd (omega (arith, h, light, ap (weight_below m n) all)))
      (λ (le : c ≤ k). le)
      (cases_lt k c)

  -- it is no more than all, and none that is light is greater
  few-light : (most : ℕ) → greatest_light m n limit most ≤ most
  few-light zero = omega arith
  few-light (suc k) =
      ⊎_elim
      (λ (h : limit < weight_below m n (suc k)). omega (arith, heavy-next k h, few-light k))
      (λ (h : weight_below m n (suc k) ≤ limit). omega (arith, light-next k h))
      (cases_lt limit (weight_below m n (suc k)))

  none-lighter : (most more : ℕ) → more ≤ most → weight_below m n more ≤ limit → more ≤ greatest_light m n limit most
  none-lighter zero more few light = few
  none-lighter (suc k) more few light =
      ⊎_elim
      (λ (h : limit < weight_below m n (suc k)).
      let rest = none-lighter k more (lighter-less k more h few light) light in
      omega (arith, heavy-next k h, rest))
      (λ (h : weight_below m n (suc k) ≤ limit). omega (arith, few, light-next k h))
      (cases_lt limit (weight_below m n (suc k)))

pub cut-light : (m n : ℕ) → weight_below m n (left_out m n) ≤ 2 ^ (n - 1)
cut-light m n = greatest-light m n (2 ^ (n - 1)) (m + n - 1)

pub cut-greatest : LeavesOutMost
cut-greatest m n = (
  few-light m n (2 ^ (n - 1)) (m + n - 1),
  cut-light m n,
  none-lighter m n (2 ^ (n - 1)) (m + n - 1),
)

-- and no other is the greatest
pub cut-is : (m n c : ℕ) → IsGreatestCut m n n c → c ≡ left_out m n
cut-is m n c (few, light, greatest) =
    let (fewest, lightest, none) = cut-greatest m n in
    omega (arith, none c few light, greatest (left_out m n) fewest lightest)
