-- Cells into which the rows of streams were put.
use Rattle.std.proofs.Common.{◌≡◌, ℕ, ◌+◌, ◌-◌, ◌*◌, ◌^◌, ◌<◌, ◌≤◌, List, length, take, drop, set, get_or, min, sym, refl, ap, ◌∙◌, ⊎_elim, arith}
use Rattle.std.proofs.Math.Nat.{mul-lt-mul_of_pos_right}
use Rattle.std.proofs.lemmas.Bool.{cases_lt, cases_eq}
use Rattle.std.proofs.lemmas.Grind.{same_number_lists}
use Rattle.std.proofs.lemmas.List.{get_or_past, get_or-take, get_or-set_same, get_or-set_other, length-drop, length-set, length-take}
use Rattle.opgen_streams.specs.Rows.{row_at}
use Rattle.opgen_streams.proofs.Rows.{cell_at, same_length}
use Rattle.opgen_streams.proofs.Places.{saturated, same_column}

-- the numbers of the first streams are at places of equal distances, and each other cell is as before
pub record ArePut (start distance done : ℕ) (numbers : ℕ → ℕ) (old new : List ℕ) : Type 0 where
  pub put : (k : ℕ) → k < done → start + k * distance < length old → get_or new (start + k * distance) 0 ≡ numbers k
  pub kept : (i : ℕ) → ((k : ℕ) → k < done → i ≡ start + k * distance → ⊥) → get_or new i 0 ≡ get_or old i 0
  pub all : length new ≡ length old

pub none_put : (start distance : ℕ) (numbers : ℕ → ℕ) (old : List ℕ) → ArePut start distance 0 numbers old old
none_put start distance numbers old = record { put = λ k none there. absurd (omega (arith, none)); kept = λ i h. refl; all = refl }

pub one_put : (start distance done place number : ℕ) (numbers : ℕ → ℕ) (old now : List ℕ) → 0 < distance → length old ≤ 2 ^ 64 - 1
    → place ≡ min (start + done * distance) (2 ^ 64 - 1) → number ≡ numbers done → ArePut start distance done numbers old now
    → ArePut start distance (done + 1) numbers old (set now place number)
one_put start distance done place number numbers old now some few is same before = record {
  put = λ k more there. ⊎_elim (earlier k there) (last k there more) (cases_lt k done);
  kept = λ i h. ⊎_elim (here i h) (other i h) (cases_eq i place);
  all = length-set now place number ∙ before.all;
}
  where
    new : List ℕ
    new = set now place number

    earlier : (k : ℕ) → start + k * distance < length old → k < done → get_or new (start + k * distance) 0 ≡ numbers k
    earlier k there h =
        let below : k * distance < done * distance = mul-lt-mul_of_pos_right h some in
        let apart : start + k * distance ≡ place → ⊥ = λ e. omega (arith, e, is, below, there, few) in
        get_or-set_other now place (start + k * distance) number 0 apart ∙ before.put k h there

    last : (k : ℕ) → start + k * distance < length old → k < done + 1 → done ≤ k → get_or new (start + k * distance) 0 ≡ numbers k
    last k there more h =
        let at : k ≡ done = omega (arith, more, h) in
        let exact : start + k * distance ≡ start + done * distance = ap (λ n. start + n * distance) at in
        let place_is : start + k * distance ≡ place = omega (arith, exact, is, there, few) in
        ap (λ i. get_or new i 0) place_is ∙ get_or-set_same now place number 0 (omega (arith, place_is, there, before.all)) ∙ same
        ∙ ap numbers (sym at)

    other : (i : ℕ) → ((k : ℕ) → k < done + 1 → i ≡ start + k * distance → ⊥) → (i ≡ place → ⊥) → get_or new i 0 ≡ get_or old i 0
    other i h apart = get_or-set_other now place i number 0 apart ∙ before.kept i (λ k l. h k (omega (arith, l)))

    here : (i : ℕ) → ((k : ℕ) → k < done + 1 → i ≡ start + k * distance → ⊥) → i ≡ place → get_or new i 0 ≡ get_or old i 0
    here i h e = ⊎_elim
        (λ there. absurd (h done (omega arith) (omega (arith, e, is, there, few))))
        (λ past. get_or_past new i 0 (omega (arith, past, length-set now place number, before.all)) ∙ sym (get_or_past old i 0 past))
        (cases_lt i (length old))

-- the first columns of the rows that streams are for hold the numbers of the streams, and each other cell is as before
pub record AreUnpacked (n count first apart done : ℕ) (rows : ℕ → List ℕ) (old new : List ℕ) : Type 0 where
  pub put : (k column : ℕ) → k < count → column < done → (first + k * apart) * n + column < length old
      → get_or new ((first + k * apart) * n + column) 0 ≡ get_or (rows k) column 0
  pub kept : (i : ℕ) → ((k column : ℕ) → k < count → column < done → i ≡ (first + k * apart) * n + column → ⊥)
      → get_or new i 0 ≡ get_or old i 0
  pub all : length new ≡ length old

pub none_unpacked : (n count first apart : ℕ) (rows : ℕ → List ℕ) (old : List ℕ) → AreUnpacked n count first apart 0 rows old old
none_unpacked n count first apart rows old = record {
  put = λ k column within none there. absurd (omega (arith, none));
  kept = λ i h. refl;
  all = refl;
}

module _ (n count first apart : ℕ) (rows : ℕ → List ℕ) (old : List ℕ) (few : length old ≤ 2 ^ 64 - 1) where
  pub one_unpacked : (done place distance : ℕ) (numbers : ℕ → ℕ) (now new : List ℕ) → done < n
      → place ≡ min (first * n + done) (2 ^ 64 - 1) → distance ≡ min (apart * n) (2 ^ 64 - 1)
      → ((k : ℕ) → k < count → numbers k ≡ get_or (rows k) done 0) → ArePut place distance count numbers now new
      → AreUnpacked n count first apart done rows old now → AreUnpacked n count first apart (done + 1) rows old new
  one_unpacked done place distance numbers now new room p d same column before = record {
    put = λ k c within more there. ⊎_elim (earlier k c within there) (last k c within there more) (cases_lt c done);
    kept = λ i h. ⊎_elim (there_kept i h) (past_kept i) (cases_lt i (length old));
    all = column.all ∙ before.all;
  }
    where
      exact : (k : ℕ) → ℕ
      exact k = first * n + done + k * (apart * n)

      exact-is : (k : ℕ) → exact k ≡ (first + k * apart) * n + done
      exact-is k = omega arith

      place-is : (k : ℕ) → place + k * distance ≡ min (first * n + done) (2 ^ 64 - 1) + k * min (apart * n) (2 ^ 64 - 1)
      place-is k = ap (λ i. i + k * distance) p ∙ ap (λ i. min (first * n + done) (2 ^ 64 - 1) + k * i) d

      -- where either is within the cells, both are the same
      of_place : (k : ℕ) → place + k * distance < length old → place + k * distance ≡ (first + k * apart) * n + done
      of_place k there = ⊎_elim
          (λ e. place-is k ∙ e ∙ exact-is k)
          (λ h. absurd (omega (arith, there, few, place-is k, h.place_is)))
          (saturated (first * n + done) (apart * n) k)

      of_exact : (k : ℕ) → (first + k * apart) * n + done < length old → place + k * distance ≡ (first + k * apart) * n + done
      of_exact k there = ⊎_elim
          (λ e. place-is k ∙ e ∙ exact-is k)
          (λ h. absurd (omega (arith, there, few, exact-is k, h.exact_is)))
          (saturated (first * n + done) (apart * n) k)

      earlier : (k c : ℕ) → k < count → (first + k * apart) * n + c < length old → c < done
          → get_or new ((first + k * apart) * n + c) 0 ≡ get_or (rows k) c 0
      earlier k c within there h =
          column.kept ((first + k * apart) * n + c) (λ k' l e.
          let same = same_column n (first + k * apart) c (first + k' * apart) done (omega (arith, h, room)) room
          (e ∙ of_place k' (omega (arith, e, there))) in
          omega (arith, same, h))
          ∙ before.put k c within h there

      last : (k c : ℕ) → k < count → (first + k * apart) * n + c < length old → c < done + 1 → done ≤ c
          → get_or new ((first + k * apart) * n + c) 0 ≡ get_or (rows k) c 0
      last k c within there more h =
          let at : c ≡ done = omega (arith, more, h) in
          let sum : (first + k * apart) * n + c ≡ (first + k * apart) * n + done = ap (λ i. (first + k * apart) * n + i) at in
          let e = of_exact k (omega (arith, sum, there)) in
          ap (λ i. get_or new i 0) (sum ∙ sym e) ∙ column.put k within (omega (arith, e, sum, there, before.all)) ∙ same k within
          ∙ ap (λ i. get_or (rows k) i 0) (sym at)

      there_kept : (i : ℕ) → ((k c : ℕ) → k < count → c < done + 1 → i ≡ (first + k * apart) * n + c → ⊥) → i < length old
          → get_or new i 0 ≡ get_or old i 0
      there_kept i h there =
          column.kept i (λ k l e. h k done l (omega arith) (e ∙ of_place k (omega (arith, e, there))))
          ∙ before.kept i (λ k c l m. h k c l (omega (arith, m)))

      past_kept : (i : ℕ) → length old ≤ i → get_or new i 0 ≡ get_or old i 0
      past_kept i past = get_or_past new i 0 (omega (arith, past, column.all, before.all)) ∙ sym (get_or_past old i 0 past)

-- all columns
module _ (n count first apart done : ℕ) (rows : ℕ → List ℕ) (old new : List ℕ) (end : n ≤ done) (are : AreUnpacked n count first apart done rows old new) where
  pub rows_put : ((k : ℕ) → length (rows k) ≡ n) → (k : ℕ) → k < count
      → row_at n (first + k * apart) new ≡ take (length (row_at n (first + k * apart) old)) (rows k)
  rows_put wide k within =
      let row = first + k * apart in
      let many = length (row_at n row old) in
      let most = length-take n (drop (row * n) old) in
      let rest = length-drop (row * n) old in
      let same = same_length n row old new are.all in
      same_number_lists (row_at n row new) (take many (rows k))
      (omega (arith, same, length-take many (rows k), wide k, most))
      (λ i there.
      let here : i < many = omega (arith, there, same) in
      cell_at n row new i there ∙ are.put k i within (omega (arith, here, most, end)) (omega (arith, here, most, rest))
      ∙ sym (get_or-take many (rows k) i 0 here))
