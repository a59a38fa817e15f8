-- Lines are rows of one list of cells, or have one fault.
use Rattle.std.proofs.Common.{◌≡◌, ℕ, zero, suc, ◌-◌, ◌<◌, ◌≤◌, List, [], ◌∷◌, ◌++◌, length, take, drop, Some, Ok, Err, refl, sym, ap, ◌∙◌, subst, arith}
use Rattle.std.specs.Prelude.{slice_get, IsSomeAnd}
use Rattle.std.proofs.lemmas.List.{take-append-drop}
use Rattle.opgen_vec.specs.declared.TheConstants.{MAX_ROWS}
use Rattle.opgen_vec.specs.declared.fault.VecFault.TheVariants as faults
use Rattle.opgen_vec.specs.Reading.{IsRow, AreRows, AreAllRows, IsBad, AreVectors, IsFirstBadLine, AreTooMany, HasOneReading}
use Rattle.opgen_vec.proofs.RowTexts.{row_cells-row}

one_row : (widths cells others line : List ℕ) → IsRow widths cells line → IsRow widths others line → cells ≡ others
one_row widths cells others line a b = let same : Some cells ≡ Some others = sym (row_cells-row widths cells line a)
    ∙ row_cells-row widths others line b in cc

one_list : (widths cells others : List ℕ) (lines : List (List ℕ)) → AreRows widths cells lines → AreRows widths others lines → cells
    ≡ others
one_list widths cells others [] a b = a ∙ sym b
one_list widths cells others (line ∷ lines) (a, are) (b, others_are) =
    let n = length widths in
    sym (take-append-drop n cells) ∙ ap (λ xs. xs ++ drop n cells) (one_row widths (take n cells) (take n others) line a b)
    ∙ ap (λ xs. take n others ++ xs) (one_list widths (drop n cells) (drop n others) lines are others_are) ∙ take-append-drop n others

-- no line of rows is bad
no_bad : (widths cells : List ℕ) (lines : List (List ℕ)) (n : ℕ) → AreRows widths cells lines → IsSomeAnd (slice_get lines n) (IsBad widths)
    → ⊥
no_bad widths cells [] n are bad = absurd bad
no_bad widths cells (line ∷ lines) zero (is, are) bad = bad (take (length widths) cells) is
no_bad widths cells (line ∷ lines) (suc n) (is, are) bad = no_bad widths (drop (length widths) cells) lines n are bad

-- what stands among the first lines
among_first : (lines : List (List ℕ)) (most n : ℕ) → n < most → slice_get (take most lines) n ≡ slice_get lines n
among_first [] zero n h = refl
among_first [] (suc most) n h = refl
among_first (line ∷ lines) zero n h = absurd (omega (arith, h))
among_first (line ∷ lines) (suc most) zero h = refl
among_first (line ∷ lines) (suc most) (suc n) h = among_first lines most n (omega (arith, h))

-- a bad line has no place among good ones
no_bad_among : (widths : List ℕ) (lines : List (List ℕ)) (most n : ℕ) → AreAllRows widths (take most lines) → n < most
    → IsSomeAnd (slice_get lines n) (IsBad widths) → ⊥
no_bad_among widths lines most n (cells, are) h bad = no_bad widths cells (take most lines) n are
    (subst (λ o. IsSomeAnd o (IsBad widths)) (sym (among_first lines most n h)) bad)

not_after : (widths : List ℕ) (lines : List (List ℕ)) (m n : ℕ) → IsFirstBadLine widths lines m → IsFirstBadLine widths lines n → m ≤ n
not_after widths lines m n first second = by_cases m n
    (λ h. no_bad_among widths lines (m - 1) (n - 1) first.good (omega (arith, h, second.counted)) second.bad)
  where
    by_cases : (m n : ℕ) → (n < m → ⊥) → m ≤ n
    by_cases m n below = omega (arith, below)

one_number : (widths : List ℕ) (lines : List (List ℕ)) (m n : ℕ) → IsFirstBadLine widths lines m → IsFirstBadLine widths lines n → m ≡ n
one_number widths lines m n first second = omega (arith, not_after widths lines m n first second, not_after widths lines n m second first)

rows_not_bad : (widths cells : List ℕ) (lines : List (List ℕ)) (n : ℕ) → AreVectors widths cells lines → IsFirstBadLine widths lines n → ⊥
rows_not_bad widths cells lines n vectors bad = no_bad widths cells lines (n - 1) vectors.rows bad.bad

rows_not_many : (widths cells : List ℕ) (lines : List (List ℕ)) → AreVectors widths cells lines → AreTooMany widths lines → ⊥
rows_not_many widths cells lines vectors many = omega (arith, vectors.few, many.more)

bad_not_many : (widths : List ℕ) (lines : List (List ℕ)) (n : ℕ) → IsFirstBadLine widths lines n → AreTooMany widths lines → ⊥
bad_not_many widths lines n bad many = no_bad_among widths lines MAX_ROWS (n - 1) many.good (omega (arith, bad.counted, bad.few)) bad.bad

pub one_reading : HasOneReading
one_reading widths lines (Ok cells) (Ok others) a b = ap Ok (one_list widths cells others lines a.rows b.rows)
one_reading widths lines (Ok cells) (Err (faults.BadLine n)) a b = absurd (rows_not_bad widths cells lines n a b)
one_reading widths lines (Ok cells) (Err faults.TooMany) a b = absurd (rows_not_many widths cells lines a b)
one_reading widths lines (Ok cells) (Err faults.Memory) a b = absurd b
one_reading widths lines (Err (faults.BadLine m)) (Ok cells) a b = absurd (rows_not_bad widths cells lines m b a)
one_reading widths lines (Err (faults.BadLine m)) (Err (faults.BadLine n)) a b = ap (λ k. Err (faults.BadLine k))
    (one_number widths lines m n a b)
one_reading widths lines (Err (faults.BadLine m)) (Err faults.TooMany) a b = absurd (bad_not_many widths lines m a b)
one_reading widths lines (Err (faults.BadLine m)) (Err faults.Memory) a b = absurd b
one_reading widths lines (Err faults.TooMany) (Ok cells) a b = absurd (rows_not_many widths cells lines b a)
one_reading widths lines (Err faults.TooMany) (Err (faults.BadLine n)) a b = absurd (bad_not_many widths lines n b a)
one_reading widths lines (Err faults.TooMany) (Err faults.TooMany) a b = refl
one_reading widths lines (Err faults.TooMany) (Err faults.Memory) a b = absurd b
one_reading widths lines (Err faults.Memory) b h k = absurd h
