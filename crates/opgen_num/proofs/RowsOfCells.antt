-- Rows of cells: how many cells they are, the first row, and the rows after it.
use Rattle.std.proofs.Common.{◌≡◌, ℕ, zero, suc, ◌+◌, ◌-◌, ◌*◌, ◌<◌, ◌≤◌, List, [], ◌∷◌, length, take, drop, refl, ap, subst, arith}
use Rattle.std.proofs.lemmas.List.{length-take, length-drop}
use Rattle.opgen_num.specs.Words.{AreRowsOfCells, FitWidths}

pub length-cells : (widths cells : List ℕ) → FitWidths widths cells → length cells ≡ length widths
length-cells [] [] are = refl
length-cells [] (c ∷ cells) are = absurd are
length-cells (w ∷ widths) [] are = absurd are
length-cells (w ∷ widths) (c ∷ cells) (small, are) = ap suc (length-cells widths cells are)

pub row_room : (widths cells : List ℕ) (rows : ℕ) → 0 < rows → AreRowsOfCells widths rows cells → length widths ≤ length cells
row_room widths cells zero some are = absurd (omega (arith, some))
row_room widths cells (suc rows) some (is, are) =
    omega (arith, length-cells widths (take (length widths) cells) is, length-take (length widths) cells)

pub first_fits : (widths cells : List ℕ) (rows : ℕ) → 0 < rows → AreRowsOfCells widths rows cells
    → FitWidths widths (take (length widths) cells)
first_fits widths cells zero some are = absurd (omega (arith, some))
first_fits widths cells (suc rows) some (is, are) = is

pub later_rows : (widths cells : List ℕ) (rows : ℕ) → 0 < rows → AreRowsOfCells widths rows cells
    → AreRowsOfCells widths (rows - 1) (drop (length widths) cells)
later_rows widths cells zero some are = absurd (omega (arith, some))
later_rows widths cells (suc rows) some (is, are) =
    let less : rows ≡ suc rows - 1 = omega arith in
    subst (λ n. AreRowsOfCells widths n (drop (length widths) cells)) less are

pub length-rows_of_cells : (widths cells : List ℕ) (rows : ℕ) → AreRowsOfCells widths rows cells → length cells ≡ rows * length widths
length-rows_of_cells widths cells zero none = omega (arith, ap length none)
length-rows_of_cells widths cells (suc rows) are =
    let room = row_room widths cells (suc rows) (omega arith) are in
    let rest = length-rows_of_cells widths (drop (length widths) cells) rows are.1 in
    let whole : suc rows * length widths ≡ length widths + rows * length widths = omega arith in
    omega (arith, room, rest, whole, length-drop (length widths) cells)
