-- Places of cells at equal distances, where sums and products stop at the largest number.
use Rattle.std.proofs.Common.{◌≡◌, inl, inr, ℕ, zero, suc, ◌+◌, ◌-◌, ◌*◌, ◌/◌, ◌%◌, ◌^◌, ◌<◌, ◌≤◌, ◌⊎◌, List, length, get_or, min, sym, ap, ◌∙◌, ⊎_elim, arith}
use Rattle.std.proofs.lemmas.Bool.{cases_lt}
use Rattle.std.proofs.lemmas.Nat.{div-mul-add, mod-mul-add}
use Rattle.std.proofs.lemmas.List.{get_or_past}

-- a place is exact, or past the largest number as the exact one is
pub record ArePast (place exact : ℕ) : Type 0 where
  pub place_is : 2 ^ 64 - 1 ≤ place
  pub exact_is : 2 ^ 64 - 1 ≤ exact

module _ (a b k : ℕ) where
  pub saturated : (min a (2 ^ 64 - 1) + k * min b (2 ^ 64 - 1) ≡ a + k * b) ⊎ ArePast (min a (2 ^ 64 - 1) + k * min b (2 ^ 64 - 1)) (a + k * b)
  saturated = ⊎_elim (λ l. ⊎_elim (λ s. inl (near l s)) (λ h. far k l h) (cases_lt b (2 ^ 64 - 1))) high (cases_lt a (2 ^ 64 - 1))
    where
      high : 2 ^ 64 - 1 ≤ a
          → (min a (2 ^ 64 - 1) + k * min b (2 ^ 64 - 1) ≡ a + k * b) ⊎ ArePast (min a (2 ^ 64 - 1) + k * min b (2 ^ 64 - 1)) (a + k * b)
      high h = let is : min a (2 ^ 64 - 1) ≡ 2 ^ 64 - 1 = omega (arith, h) in
          inr (record { place_is = omega (arith, is); exact_is = omega (arith, h) })

      near : a < 2 ^ 64 - 1 → b < 2 ^ 64 - 1 → min a (2 ^ 64 - 1) + k * min b (2 ^ 64 - 1) ≡ a + k * b
      near l s =
          let first : min a (2 ^ 64 - 1) ≡ a = omega (arith, l) in
          let second : min b (2 ^ 64 - 1) ≡ b = omega (arith, s) in
          ap (λ n. n + k * min b (2 ^ 64 - 1)) first ∙ ap (λ n. a + k * n) second

      far : (n : ℕ) → a < 2 ^ 64 - 1 → 2 ^ 64 - 1 ≤ b
          → (min a (2 ^ 64 - 1) + n * min b (2 ^ 64 - 1) ≡ a + n * b) ⊎ ArePast (min a (2 ^ 64 - 1) + n * min b (2 ^ 64 - 1)) (a + n * b)
      far zero l h = inl (omega (arith, l))
      far (suc n) l h =
          let is : min b (2 ^ 64 - 1) ≡ 2 ^ 64 - 1 = omega (arith, h) in
          let many : suc n * min b (2 ^ 64 - 1) ≡ suc n * (2 ^ 64 - 1) = ap (λ m. suc n * m) is in
          inr (record { place_is = omega (arith, many); exact_is = omega (arith, h) })

-- the cell at such a place: 0 if it is past each cell
module _ (cells : List ℕ) (few : length cells ≤ 2 ^ 64 - 1) where
  past : (place exact : ℕ) → 2 ^ 64 - 1 ≤ place → 2 ^ 64 - 1 ≤ exact → get_or cells place 0 ≡ get_or cells exact 0
  past place exact p e = get_or_past cells place 0 (omega (arith, few, p)) ∙ sym (get_or_past cells exact 0 (omega (arith, few, e)))

  pub cell_near : (place exact : ℕ) → place ≡ min exact (2 ^ 64 - 1) → get_or cells place 0 ≡ get_or cells exact 0
  cell_near place exact is = ⊎_elim
      (λ l. let same : place ≡ exact = omega (arith, is, l) in ap (λ i. get_or cells i 0) same)
      (λ h. past place exact (omega (arith, is, h)) h)
      (cases_lt exact (2 ^ 64 - 1))

  pub cell_far : (place distance a b k : ℕ) → place ≡ min a (2 ^ 64 - 1) → distance ≡ min b (2 ^ 64 - 1)
      → get_or cells (place + k * distance) 0 ≡ get_or cells (a + k * b) 0
  cell_far place distance a b k p d =
      ap (λ i. get_or cells (i + k * distance) 0) p ∙ ap (λ i. get_or cells (min a (2 ^ 64 - 1) + k * i) 0) d
      ∙ ⊎_elim (ap (λ i. get_or cells i 0)) (λ h. past _ _ h.place_is h.exact_is) (saturated a b k)

  -- the same from a row of four cells that are 64 rows apart
  pub cell_of_four : (place further start distance row k : ℕ) → place ≡ min (start + row * distance) (2 ^ 64 - 1)
      → further ≡ min (distance * 64) (2 ^ 64 - 1) → k % 64 ≡ row
      → get_or cells (place + k / 64 * further) 0 ≡ get_or cells (start + k * distance) 0
  cell_of_four place further start distance row k p f here =
      let split : 64 * (k / 64) + row ≡ k = omega (arith, here) in
      let sum : start + row * distance + k / 64 * (distance * 64) ≡ start + (64 * (k / 64) + row) * distance = omega arith in
      cell_far place further (start + row * distance) (distance * 64) (k / 64) p f
      ∙ ap (λ i. get_or cells i 0) (sum ∙ ap (λ n. start + n * distance) split)

-- the next place
pub next_place : (place a row distance : ℕ) → place ≡ min (a + row * distance) (2 ^ 64 - 1)
    → min (place + distance) (2 ^ 64 - 1) ≡ min (a + (row + 1) * distance) (2 ^ 64 - 1)
next_place place a row distance is = omega (arith, is)

-- a row and a column make one place
pub same_row : (n row column other third : ℕ) → column < n → third < n → row * n + column ≡ other * n + third → row ≡ other
same_row n row column other third l m e = sym (div-mul-add row n column l) ∙ ap (λ i. i / n) e ∙ div-mul-add other n third m

pub same_column : (n row column other third : ℕ) → column < n → third < n → row * n + column ≡ other * n + third → column ≡ third
same_column n row column other third l m e = sym (mod-mul-add row n column l) ∙ ap (λ i. i % n) e ∙ mod-mul-add other n third m
