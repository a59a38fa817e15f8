-- What the columns of a product that are left out weigh: less than one unit of the lowest column that is kept, for each row that is cut.
use Rattle.std.proofs.Common.{◌≡◌, ℕ, zero, suc, ◌+◌, ◌*◌, ◌/◌, ◌^◌, ◌<◌, ◌≤◌, ◌⊎◌, inl, inr, Bool, true, false, not, ◌&&◌, cond, eqb, ltb, min, ne_eqb, refl, sym, ap, ◌∙◌, subst, if◌then◌else◌, arith}
use Rattle.std.proofs.Math.Nat.{two-pow-succ, mul-le-mul_right}
use Rattle.std.proofs.lemmas.Bool.{cases_lt, le-ltb, ltb-true, ltb-false}
use Rattle.opgen_num.proofs.BitLength.{power_order}
use Rattle.opgen_budget.specs.Sums.{sum_to, sum_over_pairs}
use Rattle.opgen_budget.proofs.Sums.{sum-same, sum-zero}
use Rattle.opgen_partial.specs.declared.pairs.Placing.{Placing}
use Rattle.opgen_partial.specs.declared.pairs.Products.{Products}
use Rattle.opgen_partial.specs.Law.{left_out_weight}
use Rattle.opgen_partial.proofs.Counted.{pairs-turned}
use Rattle.opgen_sop.specs.Sizes.{rows_cut}

-- one row: bits in rising columns
module _ (counts : ℕ → Bool) (column : ℕ → ℕ) (left : ℕ)
    (rises : (j : ℕ) → column j ≤ column (suc j)) (steps : (j : ℕ) → counts j ≡ true → column j + 1 ≤ column (suc j)) where
  abbrev bit : ℕ → ℕ
  bit j = cond (counts j && ltb (column j) left) (2 ^ column j) 0

  below-next : (n : ℕ) → sum_to n bit + 1 ≤ 2 ^ column n
  below-next zero = omega (arith, power_order 0 (column 0) (omega arith))
  below-next (suc n) = by (below-next n) (counts n) refl (ltb (column n) left)
    where
      up : 2 ^ column n ≤ 2 ^ column (suc n)
      up = power_order (column n) (column (suc n)) (rises n)

      by : sum_to n bit + 1 ≤ 2 ^ column n → (c : Bool) → counts n ≡ c → (l : Bool)
          → sum_to n bit + cond (c && l) (2 ^ column n) 0 + 1 ≤ 2 ^ column (suc n)
      by h false e l = omega (arith, h, up)
      by h true e false = omega (arith, h, up)
      by h true e true =
          let double : 2 ^ suc (column n) ≤ 2 ^ column (suc n) = power_order (suc (column n)) (column (suc n)) (omega (arith, steps n e)) in
          omega (arith, h, double, two-pow-succ (column n))

  pub below-unit : (n : ℕ) → sum_to n bit + 1 ≤ 2 ^ left
  below-unit zero = omega (arith, power_order 0 left (omega arith))
  below-unit (suc n) = by (below-unit n) (counts n) (ltb (column n) left) (ltb-true (column n) left)
    where
      by : sum_to n bit + 1 ≤ 2 ^ left → (c l : Bool) → (l ≡ true → column n < left)
          → sum_to n bit + cond (c && l) (2 ^ column n) 0 + 1 ≤ 2 ^ left
      by b false l h = omega (arith, b)
      by b true false h = omega (arith, b)
      by b true true h =
          let double : 2 ^ suc (column n) ≤ 2 ^ left = power_order (suc (column n)) left (omega (arith, h refl)) in
          omega (arith, below-next n, double, two-pow-succ (column n))

  pub none-below : (n : ℕ) → ((j : ℕ) → counts j ≡ true → left ≤ column j) → sum_to n bit ≡ 0
  none-below n high = sum-same n bit (λ j. 0) (λ j h. by (counts j) refl) ∙ sum-zero n
    where
      by : {j : ℕ} → (c : Bool) → counts j ≡ c → cond (c && ltb (column j) left) (2 ^ column j) 0 ≡ 0
      by false e = refl
      by {j} true e = ap (λ l. cond l (2 ^ column j) 0) (le-ltb (column j) left (high j e))

-- rows of which only the first have something
pub few-rows : (row : ℕ → ℕ) (unit rows : ℕ) → ((i : ℕ) → row i ≤ unit) → ((i : ℕ) → rows ≤ i → row i ≡ 0) → (m : ℕ)
    → (sum_to m row ≤ m * unit) × (sum_to m row ≤ rows * unit)
few-rows row unit rows most none zero = (omega arith, omega arith)
few-rows row unit rows most none (suc m) = by (cases_lt m rows) (few-rows row unit rows most none m)
  where
    by : (m < rows ⊎ rows ≤ m) → (sum_to m row ≤ m * unit) × (sum_to m row ≤ rows * unit)
        → (sum_to m row + row m ≤ suc m * unit) × (sum_to m row + row m ≤ rows * unit)
    by (inl l) (a, b) =
        let more : suc m * unit ≤ rows * unit = mul-le-mul_right unit l in (
          omega (arith, a, most m),
          omega (arith, a, most m, more),
        )
    by (inr l) (a, b) = (omega (arith, a, none m l), omega (arith, b, none m l))

-- two different factors
module _ (m n left : ℕ) where
  abbrev plain : ℕ → ℕ → ℕ
  plain i j = cond (ltb (i + j) left) (2 ^ (i + j)) 0

  plain-row : (n : ℕ) (i : ℕ) → sum_to n (plain i) ≤ 2 ^ left
  plain-row n i =
      let row = below-unit (λ j. true) (λ j. i + j) left (λ j. omega arith) (λ j e. omega arith) n in
      omega (arith, row)

  plain-none : (n : ℕ) (i : ℕ) → left ≤ i → sum_to n (plain i) ≡ 0
  plain-none n i h = none-below (λ j. true) (λ j. i + j) left (λ j. omega arith) (λ j e. omega arith) n (λ j e. omega (arith, h))

  turned-same : sum_over_pairs m n plain ≡ sum_over_pairs n m plain
  turned-same =
      pairs-turned m n plain
      ∙ sum-same n (λ j. sum_to m (λ i. plain i j)) (λ j. sum_to m (plain j))
      (λ j h. sum-same m (λ i. plain i j) (plain j) (λ i l. let e : i + j ≡ j + i = omega arith in ap (λ k. cond (ltb k left) (2 ^ k) 0) e))

  pub plain-cut : sum_over_pairs m n plain ≤ min (min m n) left * 2 ^ left
  plain-cut =
      let a = few-rows (λ i. sum_to n (plain i)) (2 ^ left) left (plain-row n) (plain-none n) m in
      let b = few-rows (λ j. sum_to m (plain j)) (2 ^ left) left (plain-row m) (plain-none m) n in
      by (cases_lt m n) (cases_lt (min m n) left) a.0 a.1 b.0
    where
      by : (m < n ⊎ n ≤ m) → (min m n < left ⊎ left ≤ min m n) → sum_over_pairs m n plain ≤ m * 2 ^ left
          → sum_over_pairs m n plain ≤ left * 2 ^ left → sum_over_pairs n m plain ≤ n * 2 ^ left
          → sum_over_pairs m n plain ≤ min (min m n) left * 2 ^ left
      by (inl h) (inl k) a c b =
          let is : min (min m n) left ≡ m = omega (arith, h, k) in omega (arith, a, ap (λ r. r * 2 ^ left) is)
      by (inr h) (inl k) a c b =
          let is : min (min m n) left ≡ n = omega (arith, h, k) in omega (arith, b, turned-same, ap (λ r. r * 2 ^ left) is)
      by h (inr k) a c b =
          let is : min (min m n) left ≡ left = omega (arith, k) in omega (arith, c, ap (λ r. r * 2 ^ left) is)

-- a number with itself
module _ (m left : ℕ) where
  abbrev counted : ℕ → ℕ → Bool
  counted i j = not (ltb j i)

  abbrev own : ℕ → ℕ → ℕ
  own i j = if not (eqb i j) then i + j + 1 else i + j

  abbrev square : ℕ → ℕ → ℕ
  square i j = cond (counted i j && ltb (own i j) left) (2 ^ own i j) 0

  own-low : (i j : ℕ) → i + j ≤ own i j
  own-low i j = by (eqb i j)
    where
      by : (c : Bool) → i + j ≤ (if not c then i + j + 1 else i + j)
      by true = omega arith
      by false = omega arith

  own-high : (i j : ℕ) → own i j ≤ i + j + 1
  own-high i j = by (eqb i j)
    where
      by : (c : Bool) → (if not c then i + j + 1 else i + j) ≤ i + j + 1
      by true = omega arith
      by false = omega arith

  rises : (i j : ℕ) → own i j ≤ own i (suc j)
  rises i j = omega (arith, own-high i j, own-low i (suc j))

  not-true : (b : Bool) → not b ≡ true → b ≡ false
  not-true true e = cc
  not-true false e = refl

  counted-is : (i j : ℕ) → counted i j ≡ true → i ≤ j
  counted-is i j e = ltb-false j i (not-true (ltb j i) e)

  steps : (i j : ℕ) → counted i j ≡ true → own i j + 1 ≤ own i (suc j)
  steps i j e =
      let apart : own i (suc j) ≡ i + suc j + 1 =
      ap (λ (c : Bool). if not c then i + suc j + 1 else i + suc j) (ne_eqb i (suc j) (λ k. omega (arith, k, counted-is i j e))) in
      omega (arith, apart, own-high i j)

  pub square-cut : sum_over_pairs m m square ≤ min m ((left + 1) / 2) * 2 ^ left
  square-cut =
      let rows = few-rows (λ i. sum_to m (square i)) (2 ^ left) ((left + 1) / 2)
      (λ i. let row = below-unit (counted i) (own i) left (rises i) (steps i) m in omega (arith, row))
      (λ i h. none-below (counted i) (own i) left (rises i) (steps i) m (λ j e. omega (arith, counted-is i j e, own-low i j, h))) m in
      by (cases_lt m ((left + 1) / 2)) rows.0 rows.1
    where
      by : (m < (left + 1) / 2 ⊎ (left + 1) / 2 ≤ m) → sum_over_pairs m m square ≤ m * 2 ^ left
          → sum_over_pairs m m square ≤ (left + 1) / 2 * 2 ^ left → sum_over_pairs m m square ≤ min m ((left + 1) / 2) * 2 ^ left
      by (inl h) a b = let is : min m ((left + 1) / 2) ≡ m = omega (arith, h) in omega (arith, a, ap (λ r. r * 2 ^ left) is)
      by (inr h) a b =
          let is : min m ((left + 1) / 2) ≡ (left + 1) / 2 = omega (arith, h) in omega (arith, b, ap (λ r. r * 2 ^ left) is)

-- of either kind
pub cut-light : (p : Products) (f : Placing) → (f.square ≡ true → p.b.width ≡ p.a.width)
    → left_out_weight p f ≤ rows_cut p f.square * 2 ^ p.left_out
cut-light p f same = by f.square same
  where
    by : (s : Bool) → (s ≡ true → p.b.width ≡ p.a.width)
        → sum_over_pairs p.a.width p.b.width (λ i j. cond (not (s && ltb j i) && ltb (if s && not (eqb i j) then i + j + 1 else i + j) p.left_out) (2 ^ (if s && not (eqb i j) then i + j + 1 else i + j)) 0)
        ≤ rows_cut p s * 2 ^ p.left_out
    by false h = plain-cut p.a.width p.b.width p.left_out
    by true h =
        subst (λ n. sum_over_pairs p.a.width n (square p.a.width p.left_out) ≤ min p.a.width ((p.left_out + 1) / 2) * 2 ^ p.left_out)
        (sym (h refl)) (square-cut p.a.width p.left_out)
