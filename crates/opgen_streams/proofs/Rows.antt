-- Rows of cells: those that are there, and those that are not.
use Rattle.std.proofs.Common.{◌≡◌, ℕ, suc, ◌+◌, ◌-◌, ◌*◌, ◌<◌, ◌≤◌, List, [], ◌∷◌, ◌++◌, length, take, drop, get_or, replicate, refl, sym, ap, ◌∙◌, ⊎_elim, arith}
use Rattle.std.proofs.lemmas.Bool.{cases_lt}
use Rattle.std.proofs.lemmas.Grind.{same_number_lists}
use Rattle.std.proofs.lemmas.List.{drop_all, take_all, take-append-le, get_or_past, get_or-take, get_or-drop, get_or-replicate, get_or_append_left, get_or-append_right, length-append, length-drop, length-map, length-replicate, length-take}
use Rattle.opgen_num.specs.Words.{nat}
use Rattle.opgen_streams.specs.Rows.{row_at, row_in, row_with_zeros}
use Rattle.opgen_streams.specs.Streams.{words_in}
use Rattle.opgen_streams.proofs.Places.{same_row}

module _ (columns row : ℕ) (cells : List ℕ) where
  pub whole_row : (row + 1) * columns ≤ length cells → row_with_zeros columns row cells ≡ row_at columns row cells
  whole_row h =
      take-append-le columns (drop (row * columns) cells) (replicate columns 0) (omega (arith, h, length-drop (row * columns) cells))

  pub no_row : length cells ≤ row * columns → row_with_zeros columns row cells ≡ replicate columns 0
  no_row h =
      ap (λ xs. take columns (xs ++ replicate columns 0)) (drop_all (row * columns) cells h)
      ∙ take_all columns (replicate columns 0) (omega (arith, length-replicate {A = ℕ} columns 0))

  pub length-row_at : (row + 1) * columns ≤ length cells → length (row_at columns row cells) ≡ columns
  length-row_at h = omega (arith, h, length-take columns (drop (row * columns) cells), length-drop (row * columns) cells)

  pub length-row_with_zeros : length (row_with_zeros columns row cells) ≡ columns
  length-row_with_zeros =
      omega (
        arith,
        length-take columns (drop (row * columns) cells ++ replicate columns 0),
        length-append (drop (row * columns) cells) (replicate columns 0),
        length-replicate {A = ℕ} columns 0,
      )

  pub cell_of_row : (column : ℕ) → column < columns → get_or (row_with_zeros columns row cells) column 0 ≡ get_or cells (row * columns + column) 0
  cell_of_row column within =
      get_or-take columns (drop (row * columns) cells ++ replicate columns 0) column 0 within
      ∙ ⊎_elim there past (cases_lt column (length (drop (row * columns) cells)))
    where
      rest : List ℕ
      rest = drop (row * columns) cells

      there : column < length rest → get_or (rest ++ replicate columns 0) column 0 ≡ get_or cells (row * columns + column) 0
      there h = get_or_append_left rest (replicate columns 0) 0 column h ∙ get_or-drop (row * columns) cells column 0

      past : length rest ≤ column → get_or (rest ++ replicate columns 0) column 0 ≡ get_or cells (row * columns + column) 0
      past h =
          get_or-append_right rest (replicate columns 0) (length rest) column 0 refl h
          ∙ get_or-replicate columns (column - length rest) 0 0 (omega (arith, within))
          ∙ sym (get_or_past rest column 0 h)
          ∙ get_or-drop (row * columns) cells column 0

-- the cells of a row, one by one
pub same_length : (columns row : ℕ) (old new : List ℕ) → length new ≡ length old → length (row_at columns row new) ≡ length (row_at columns row old)
same_length columns row old new all =
    omega (
      arith,
      all,
      length-take columns (drop (row * columns) new),
      length-take columns (drop (row * columns) old),
      length-drop (row * columns) new,
      length-drop (row * columns) old,
    )

pub cell_at : (columns row : ℕ) (cells : List ℕ) (i : ℕ) → i < length (row_at columns row cells)
    → get_or (row_at columns row cells) i 0 ≡ get_or cells (row * columns + i) 0
cell_at columns row cells i there =
    get_or-take columns (drop (row * columns) cells) i 0 (omega (arith, there, length-take columns (drop (row * columns) cells)))
    ∙ get_or-drop (row * columns) cells i 0

-- the rows of which no cell was written
pub rows_kept : (columns count first apart : ℕ) (old new : List ℕ) → length new ≡ length old
    → ((i : ℕ) → ((k column : ℕ) → k < count → column < columns → i ≡ (first + k * apart) * columns + column → ⊥) → get_or new i 0 ≡ get_or old i 0)
    → (row : ℕ) → ((k : ℕ) → k < count → row ≡ first + k * apart → ⊥) → row_at columns row new ≡ row_at columns row old
rows_kept columns count first apart old new all kept row none =
    same_number_lists (row_at columns row new) (row_at columns row old) (same_length columns row old new all) (λ i there.
    let here : i < length (row_at columns row old) = omega (arith, there, same_length columns row old new all) in
    let within : i < columns = omega (arith, here, length-take columns (drop (row * columns) old)) in
    cell_at columns row new i there
    ∙ kept (row * columns + i) (λ k column less m e. none k less (same_row columns row i (first + k * apart) column within m e))
    ∙ sym (cell_at columns row old i here))

-- the row in a stream
pub length-words_in : (widths : List ℕ) (lanes : List (List ℕ)) (k : ℕ) → length (words_in widths lanes k) ≡ length widths
length-words_in [] lanes k = refl
length-words_in (width ∷ widths) lanes k = ap suc (length-words_in widths (drop width lanes) k)

pub length-row_in : (widths : List ℕ) (lanes : List (List ℕ)) (k : ℕ) → length (row_in widths lanes k) ≡ length widths
length-row_in widths lanes k = length-map (words_in widths lanes k) nat ∙ length-words_in widths lanes k

pub whole_row_in : (widths : List ℕ) (lanes : List (List ℕ)) (k row : ℕ) (cells : List ℕ) → (row + 1) * length widths ≤ length cells
    → take (length (row_at (length widths) row cells)) (row_in widths lanes k) ≡ row_in widths lanes k
whole_row_in widths lanes k row cells h =
    take_all (length (row_at (length widths) row cells)) (row_in widths lanes k)
    (omega (arith, length-row_at (length widths) row cells h, length-row_in widths lanes k))
