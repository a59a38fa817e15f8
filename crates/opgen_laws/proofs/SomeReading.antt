-- Lines are rows of cells, or have a fault.
use Rattle.std.proofs.Common.{◌≡◌, ℕ, zero, suc, ◌+◌, ◌-◌, ◌<◌, ◌⊎◌, List, [], ◌∷◌, ◌++◌, length, take, drop, Option, Some, None, Result, Ok, Err, refl, sym, ap, ◌∙◌, subst, inl, inr, arith}
use Rattle.std.specs.Prelude.{slice_get, IsSomeAnd}
use Rattle.std.proofs.Math.Seq.{take-append_seam, drop-append_seam}
use Rattle.std.proofs.lemmas.Bool.{cases_lt}
use Rattle.std.proofs.lemmas.List.{take_all}
use Rattle.opgen_num.proofs.RowsOfCells.{length-cells}
use Rattle.opgen_vec.specs.declared.TheConstants.{MAX_ROWS}
use Rattle.opgen_vec.specs.declared.fault.VecFault.{VecFault}
use Rattle.opgen_vec.specs.declared.fault.VecFault.TheVariants as faults
use Rattle.opgen_vec.specs.Digits.{row_cells}
use Rattle.opgen_vec.specs.Reading.{IsRow, AreRows, AreAllRows, IsBad, IsReading}
use Rattle.opgen_vec.proofs.RowTexts.{bad-line, row-row_cells}

-- the first lines are rows, or one of them is the first that is none
abbrev AreGoodOrBad : (widths : List ℕ) (most : ℕ) (lines : List (List ℕ)) → Type 0
AreGoodOrBad widths most lines =
    AreAllRows widths (take most lines) ⊎ ((n : ℕ) × (n < most) × AreAllRows widths (take n lines) × IsSomeAnd (slice_get lines n) (IsBad widths))

row_before : (widths cells others line : List ℕ) (lines : List (List ℕ)) → IsRow widths cells line → AreRows widths others lines
    → AreRows widths (cells ++ others) (line ∷ lines)
row_before widths cells others line lines is are =
    let len : length cells ≡ length widths = length-cells widths cells is.0 in
    let front : cells ≡ take (length widths) (cells ++ others) =
    sym (ap (λ n. take n (cells ++ others)) (sym len) ∙ take-append_seam cells others) in
    let rest : others ≡ drop (length widths) (cells ++ others) =
    sym (ap (λ n. drop n (cells ++ others)) (sym len) ∙ drop-append_seam cells others) in
    (subst (λ xs. IsRow widths xs line) front is, subst (λ xs. AreRows widths xs lines) rest are)

by_line : (widths line : List ℕ) (most : ℕ) (lines : List (List ℕ)) (o : Option (List ℕ)) → row_cells widths line ≡ o
    → AreGoodOrBad widths most lines → AreGoodOrBad widths (suc most) (line ∷ lines)
by_line widths line most lines None e later = inr (0, omega arith, ([], refl), bad-line widths line e)
by_line widths line most lines (Some cells) e (inl (others, are)) =
    inl (cells ++ others, row_before widths cells others line (take most lines) (row-row_cells widths cells line e) are)
by_line widths line most lines (Some cells) e (inr (n, l, (others, are), bad)) =
    let row = row-row_cells widths cells line e in
    inr (suc n, omega (arith, l), (cells ++ others, row_before widths cells others line (take n lines) row are), bad)

good_or_bad : (widths : List ℕ) (most : ℕ) (lines : List (List ℕ)) → AreGoodOrBad widths most lines
good_or_bad widths zero lines = inl ([], refl)
good_or_bad widths (suc most) [] = inl ([], refl)
good_or_bad widths (suc most) (line ∷ lines) = by_line widths line most lines (row_cells widths line) refl (good_or_bad widths most lines)

module _ (widths : List ℕ) (lines : List (List ℕ)) where
  by_first : AreGoodOrBad widths MAX_ROWS lines → (r : Result (List ℕ) VecFault) × IsReading widths lines r
  by_first (inl (cells, are)) = elim (cases_lt MAX_ROWS (length lines)) [
    | inl more ↦ (Err faults.TooMany, record { good = (cells, are); more = more })
    | inr few ↦ (Ok cells, record { few = few; rows = subst (AreRows widths cells) (take_all MAX_ROWS lines few) are })
  ]
  by_first (inr (n, l, good, bad)) =
      let place : n ≡ n + 1 - 1 = omega arith in (
        Err (faults.BadLine (n + 1)),
        record {
          counted = omega arith;
          few = omega (arith, l);
          good = subst (λ k. AreAllRows widths (take k lines)) place good;
          bad = subst (λ k. IsSomeAnd (slice_get lines k) (IsBad widths)) place bad;
        },
      )

  pub some_reading : (r : Result (List ℕ) VecFault) × IsReading widths lines r
  some_reading = by_first (good_or_bad widths MAX_ROWS lines)
