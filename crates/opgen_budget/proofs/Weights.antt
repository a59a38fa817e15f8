-- The weight of the lowest columns of a product.
use Rattle.std.proofs.Common.{◌≡◌, ℕ, zero, suc, ◌+◌, ◌-◌, ◌*◌, ◌^◌, ◌<◌, ◌≤◌, inl, inr, ⊎_elim, ap, ◌∙◌, cond, eqb, ltb, lt-ltb, le-ltb, ne_eqb, eq-eqb, arith}
use Rattle.std.proofs.lemmas.Bool.{cases_lt, cases_order}
use Rattle.opgen_num.proofs.BitLength.{power_order}
use Rattle.opgen_budget.specs.Columns.{bits_in_column, weight_below}
use Rattle.opgen_budget.proofs.Sums.{sum-zero, sum-same, pairs-same, pairs-plus, pairs-times}

-- a bit of weight 2 ^ c, where c is below a number of columns
abbrev weight : (columns c : ℕ) → ℕ
weight columns c = cond (ltb c columns) (2 ^ c) 0

inside : (columns c : ℕ) → c < columns → weight columns c ≡ 2 ^ c
inside columns c h = ap (λ t. cond t (2 ^ c) 0) (lt-ltb c columns h)

outside : (columns c : ℕ) → columns ≤ c → weight columns c ≡ 0
outside columns c h = ap (λ t. cond t (2 ^ c) 0) (le-ltb c columns h)

weight-more : (k c : ℕ) → weight (suc k) c ≡ weight k c + cond (eqb c k) 1 0 * 2 ^ k
weight-more k c = elim (cases_order c k) [
  | inl e ↦
      let hit : cond (eqb c k) 1 0 * 2 ^ k ≡ 2 ^ k = ap (λ t. cond t 1 0 * 2 ^ k) (eq-eqb c k e) ∙ omega arith in
      omega (arith, inside (suc k) c (omega (arith, e)), outside k c (omega (arith, e)), hit, ap (λ z. 2 ^ z) e)
  | inr o ↦ elim o [
    | inl l ↦
        let miss : cond (eqb c k) 1 0 * 2 ^ k ≡ 0 = ap (λ t. cond t 1 0 * 2 ^ k) (ne_eqb c k (λ e. omega (arith, e, l))) ∙ omega arith in
        omega (arith, inside (suc k) c (omega (arith, l)), inside k c l, miss)
    | inr l ↦
        let miss : cond (eqb c k) 1 0 * 2 ^ k ≡ 0 = ap (λ t. cond t 1 0 * 2 ^ k) (ne_eqb c k (λ e. omega (arith, e, l))) ∙ omega arith in
        omega (arith, outside (suc k) c (omega (arith, l)), outside k c (omega (arith, l)), miss)
  ]
]

pub weight_below-suc : (m n k : ℕ) → weight_below m n (suc k) ≡ weight_below m n k + bits_in_column m n k * 2 ^ k
weight_below-suc m n k =
    pairs-same m n (λ i j. weight (suc k) (i + j)) (λ i j. weight k (i + j) + cond (eqb (i + j) k) 1 0 * 2 ^ k)
    (λ i j h l. weight-more k (i + j))
    ∙ pairs-plus m n (λ i j. weight k (i + j)) (λ i j. cond (eqb (i + j) k) 1 0 * 2 ^ k)
    ∙ ap (λ s. weight_below m n k + s) (pairs-times m n (λ i j. cond (eqb (i + j) k) 1 0) (2 ^ k))

pub weight_below-zero : (m n : ℕ) → weight_below m n 0 ≡ 0
weight_below-zero m n =
    sum-same m _ (λ i. 0) (λ i h. sum-same n _ (λ j. 0) (λ j l. outside 0 (i + j) (omega arith)) ∙ sum-zero n) ∙ sum-zero m

-- more columns weigh no less
pub weight_below-order : (m n j d : ℕ) → weight_below m n j ≤ weight_below m n (j + d)
weight_below-order m n j zero = let e : j ≡ j + 0 = omega arith in omega (arith, ap (weight_below m n) e)
weight_below-order m n j (suc d) =
    let e : suc (j + d) ≡ j + suc d = omega arith in
    omega (arith, weight_below-order m n j d, weight_below-suc m n (j + d), ap (weight_below m n) e)

-- where one column more weighs too much, so do all numbers of columns above
pub cut_is_greatest : (m n k most : ℕ) → most < weight_below m n (suc k) → (more : ℕ) → weight_below m n more ≤ most → more ≤ k
cut_is_greatest m n k most h more g =
    ⊎_elim
    (λ (l : k < more).
    let e : suc k + (more - suc k) ≡ more = omega (arith, l) in
    absurd (omega (arith, weight_below-order m n (suc k) (more - suc k), ap (weight_below m n) e, h, g)))
    (λ (l : more ≤ k). l)
    (cases_lt k more)

-- so few columns that their weight has a place in 64 bits
pub few_columns : (k w p : ℕ) → 2 ^ k ≤ w + 1 → w ≤ 2 ^ (p - 1) → p ≤ 64 → k ≤ 63
few_columns k w p h g l =
    ⊎_elim
    (λ (t : 63 < k). absurd (omega (arith, power_order 64 k t, power_order (p - 1) 63 (omega (arith, l)), h, g)))
    (λ (t : k ≤ 63). t)
    (cases_lt 63 k)
