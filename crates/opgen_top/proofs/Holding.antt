-- The rows of vectors without cells.
use Rattle.std.proofs.Common.{◌≡◌, ℕ, zero, suc, List, [], ◌∷◌, length, refl, sym, subst, arith}
use Rattle.std.specs.Str.Lines.{lines}
use Rattle.opgen_num.specs.Words.{AreRowsOfCells}
use Rattle.opgen_vec.specs.Reading.{AreVectors}
use Rattle.opgen_top.specs.declared.rows.Rows.{Rows}
use Rattle.opgen_top.specs.Prepared.{HoldsRows}

empty_rows : (rows : ℕ) → AreRowsOfCells [] rows []
empty_rows zero = refl
empty_rows (suc rows) = (tt, empty_rows rows)

-- without widths each line is empty
pub holds_empty : (widths vectors : List ℕ) (rows : Rows) → length widths ≡ 0 → rows.count ≡ length (lines vectors)
    → AreVectors [] [] (lines vectors) → rows.inputs.columns ≡ 0 → rows.inputs.cells.items ≡ []
    → HoldsRows widths vectors rows
holds_empty [] vectors rows none count are columns cells = record {
  reading = subst (λ cs. AreVectors [] cs (lines vectors)) (sym cells) are;
  columns = columns;
  count = count;
  fit = subst (AreRowsOfCells [] rows.count) (sym cells) (empty_rows rows.count);
}
holds_empty (w ∷ widths) vectors rows none count are columns cells = absurd (omega (arith, none))
