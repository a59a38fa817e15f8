-- The products of bits in parts: those that are made and those left out, and of those made, the ones up to the heap's width and past it.
use Rattle.std.proofs.Common.{◌≡◌, ℕ, ◌+◌, ◌-◌, ◌*◌, ◌^◌, ◌<◌, ◌≤◌, Bool, true, false, ◌&&◌, leb, ltb, cond, pow-add, ⊎_elim, refl, sym, ap, ◌∙◌, arith}
use Rattle.std.proofs.Math.Nat.{mul-le-mul_right}
use Rattle.std.proofs.lemmas.Bool.{cases_lt, lt-ltb, le-ltb, le-leb, lt-leb, ltb-false, leb-true}
use Rattle.opgen_budget.specs.Sums.{sum_over_pairs}
use Rattle.opgen_budget.proofs.Sums.{pairs-same, pairs-plus, pairs-order, pairs-times}
use Rattle.opgen_partial.specs.declared.pairs.Placing.{Placing}
use Rattle.opgen_partial.specs.declared.pairs.Products.{Products}
use Rattle.opgen_partial.specs.Law.{IsPlaced, left_out_weight}
use Rattle.opgen_partial.specs.Recipe.{own_column, is_counted, is_made, column}
use Rattle.opgen_partial.proofs.Operands.{and-right}

-- x if the product of two bits is made and its column is not past the width
abbrev pub kept : Products → Placing → (width i j x : ℕ) → ℕ
kept p f width i j x = cond (is_made p f i j && ltb (column f i j) width) x 0

module _ (p : Products) (f : Placing) (placed : IsPlaced p f) (width : ℕ) (d : ℕ → ℕ → ℕ) (small : (i j : ℕ) → d i j ≤ 1) where
  abbrev m : ℕ
  m = p.a.width

  abbrev n : ℕ
  n = p.b.width

  abbrev all_at : ℕ → ℕ → ℕ
  all_at i j = cond (is_counted f i j) (d i j * 2 ^ own_column f i j) 0

  abbrev pub made_at : ℕ → ℕ → ℕ
  made_at i j = cond (is_made p f i j) (d i j * 2 ^ own_column f i j) 0

  abbrev pub out_at : ℕ → ℕ → ℕ
  out_at i j = cond (is_counted f i j && ltb (own_column f i j) p.left_out) (d i j * 2 ^ own_column f i j) 0

  -- in the heap's columns

  abbrev pub placed_at : ℕ → ℕ → ℕ
  placed_at i j = cond (is_made p f i j) (d i j * 2 ^ column f i j) 0

  abbrev pub kept_at : ℕ → ℕ → ℕ
  kept_at i j = kept p f width i j (d i j * 2 ^ column f i j)

  -- past the width, in units of 2 to it
  abbrev pub units_at : ℕ → ℕ → ℕ
  units_at i j = cond (is_made p f i j) (cond (ltb (column f i j) width) 0 (d i j * 2 ^ (column f i j - width))) 0

  two : (c : Bool) (own x : ℕ) → cond c x 0 ≡ cond (c && leb p.left_out own) x 0 + cond (c && ltb own p.left_out) x 0
  two false own x = refl
  two true own x = ⊎_elim below above (cases_lt own p.left_out)
    where
      below : own < p.left_out → x ≡ cond (leb p.left_out own) x 0 + cond (ltb own p.left_out) x 0
      below h =
          let k : cond (leb p.left_out own) x 0 ≡ 0 = ap (λ t. cond t x 0) (lt-leb p.left_out own h) in
          let o : cond (ltb own p.left_out) x 0 ≡ x = ap (λ t. cond t x 0) (lt-ltb own p.left_out h) in
          omega (arith, k, o)

      above : p.left_out ≤ own → x ≡ cond (leb p.left_out own) x 0 + cond (ltb own p.left_out) x 0
      above h =
          let k : cond (leb p.left_out own) x 0 ≡ x = ap (λ t. cond t x 0) (le-leb p.left_out own h) in
          let o : cond (ltb own p.left_out) x 0 ≡ 0 = ap (λ t. cond t x 0) (le-ltb own p.left_out h) in
          omega (arith, k, o)

  pub in_two : sum_over_pairs m n all_at ≡ sum_over_pairs m n made_at + sum_over_pairs m n out_at
  in_two =
      pairs-same m n all_at (λ i j. made_at i j + out_at i j)
      (λ i j h l. two (is_counted f i j) (own_column f i j) (d i j * 2 ^ own_column f i j))
      ∙ pairs-plus m n made_at out_at

  -- what is left out weighs no more than all its bits
  pub out_below : sum_over_pairs m n out_at ≤ left_out_weight p f
  out_below =
      pairs-order m n out_at (λ i j. cond (is_counted f i j && ltb (own_column f i j) p.left_out) (2 ^ own_column f i j) 0)
      (λ i j h l. one (is_counted f i j && ltb (own_column f i j) p.left_out) (d i j) (2 ^ own_column f i j) (small i j))
    where
      one : (t : Bool) (e w : ℕ) → e ≤ 1 → cond t (e * w) 0 ≤ cond t w 0
      one true e w h = omega (arith, mul-le-mul_right w h)
      one false e w h = omega arith

  -- raised and lowered
  pub moved : 2 ^ f.raised * sum_over_pairs m n made_at ≡ 2 ^ f.lowered * sum_over_pairs m n placed_at
  moved =
      let left = pairs-times m n made_at (2 ^ f.raised) in
      let right = pairs-times m n placed_at (2 ^ f.lowered) in
      let each = pairs-same m n (λ i j. made_at i j * 2 ^ f.raised) (λ i j. placed_at i j * 2 ^ f.lowered)
      (λ i j h l. one (is_made p f i j) i j (λ e. leb-true p.left_out (own_column f i j) (and-right (is_counted f i j) (leb p.left_out (own_column f i j)) e))) in
      omega (arith, left, right, each)
    where
      one : (t : Bool) (i j : ℕ) → (t ≡ true → p.left_out ≤ own_column f i j)
          → cond t (d i j * 2 ^ own_column f i j) 0 * 2 ^ f.raised ≡ cond t (d i j * 2 ^ column f i j) 0 * 2 ^ f.lowered
      one false i j h = omega arith
      one true i j h =
          let o = own_column f i j in
          let whole : o + f.raised ≡ column f i j + f.lowered = omega (arith, h refl, placed.lowered) in
          let power : 2 ^ o * 2 ^ f.raised ≡ 2 ^ column f i j * 2 ^ f.lowered =
          sym (pow-add 2 o f.raised) ∙ ap (λ k. 2 ^ k) whole ∙ pow-add 2 (column f i j) f.lowered in
          omega (arith, ap (λ k. d i j * k) power)

  -- what is past the width is a multiple of 2 to it
  pub in_width : sum_over_pairs m n placed_at ≡ sum_over_pairs m n kept_at + sum_over_pairs m n units_at * 2 ^ width
  in_width =
      let units = pairs-times m n units_at (2 ^ width) in
      let each = pairs-same m n placed_at (λ i j. kept_at i j + units_at i j * 2 ^ width)
      (λ i j h l. one (is_made p f i j) (column f i j) (d i j)) in
      omega (arith, units, each, pairs-plus m n kept_at (λ i j. units_at i j * 2 ^ width))
    where
      one : (t : Bool) (c e : ℕ)
          → cond t (e * 2 ^ c) 0 ≡ cond (t && ltb c width) (e * 2 ^ c) 0 + cond t (cond (ltb c width) 0 (e * 2 ^ (c - width))) 0 * 2 ^ width
      one false c e = omega arith
      one true c e = past (ltb c width) (ltb-false c width)
        where
          past : (t : Bool) → (t ≡ false → width ≤ c) → e * 2 ^ c ≡ cond t (e * 2 ^ c) 0 + cond t 0 (e * 2 ^ (c - width)) * 2 ^ width
          past true h = omega arith
          past false h =
              let whole : c - width + width ≡ c = omega (arith, h refl) in
              let power : 2 ^ c ≡ 2 ^ (c - width) * 2 ^ width = ap (λ k. 2 ^ k) (sym whole) ∙ pow-add 2 (c - width) width in
              omega (arith, ap (λ k. e * k) power)
