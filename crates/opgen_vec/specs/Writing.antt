-- The text of a run: a line for each cycle, with the row of the inputs and the row of the outputs.
use Rattle.std.specs.Prelude.{ℕ, zero, suc, ◌≡◌, ◌/◌, max, List, [], ◌++◌, length, take, drop, codes}
use Rattle.opgen_vec.specs.Rows.{row_text}

abbrev pub line_text : (in_widths out_widths inputs outputs : List ℕ) → List ℕ
line_text in_widths out_widths inputs outputs = row_text in_widths inputs ++ codes " : " ++ row_text out_widths outputs ++ codes "\n"

-- the text of so many rows of cells, row after row on both sides
abbrev pub rows_text : (in_widths out_widths : List ℕ) (rows : ℕ) (inputs outputs : List ℕ) → List ℕ
rows_text in_widths out_widths zero inputs outputs = []
rows_text in_widths out_widths (suc rows) inputs outputs =
    line_text in_widths out_widths (take (length in_widths) inputs) (take (length out_widths) outputs)
    ++ rows_text in_widths out_widths rows (drop (length in_widths) inputs) (drop (length out_widths) outputs)

-- how many rows of so many cells there are; none where a row has no cell
abbrev pub row_count : (columns : ℕ) (cells : List ℕ) → ℕ
row_count zero cells = 0
row_count (suc more) cells = length cells / suc more

-- as many rows on both sides, where both have cells
abbrev pub HaveSameRows : (in_columns out_columns : ℕ) (inputs outputs : List ℕ) → Type 0
HaveSameRows zero out_columns inputs outputs = Unit {0}
HaveSameRows (suc m) zero inputs outputs = Unit {0}
HaveSameRows (suc m) (suc n) inputs outputs = row_count (suc m) inputs ≡ row_count (suc n) outputs

-- the number of rows: a side without cells has as many as the other
abbrev pub row_count_of : (in_columns out_columns : ℕ) (inputs outputs : List ℕ) → ℕ
row_count_of in_columns out_columns inputs outputs = max (row_count in_columns inputs) (row_count out_columns outputs)
