-- What a file of vectors holds: a row a line. Lines end by a line feed, which may follow a carriage return; the last line may
-- have none.
use Rattle.std.specs.Prelude.{ℕ, ◌≡◌, ◌-◌, ◌≤◌, ◌<◌, List, [], ◌∷◌, length, take, drop, slice_get, IsSomeAnd, Result, Ok, Err}
use Rattle.std.specs.Str.{str_to_ascii_lowercase}
use Rattle.opgen_num.specs.Words.{FitWidths}
use Rattle.opgen_vec.specs.declared.TheConstants.{MAX_ROWS}
use Rattle.opgen_vec.specs.declared.fault.VecFault.{VecFault}
use Rattle.opgen_vec.specs.declared.fault.VecFault.TheVariants as faults
use Rattle.opgen_vec.specs.Rows.{row_text}

-- the line is the text of these cells, but that its letters may be capitals
abbrev pub IsRow : (widths cells line : List ℕ) → Type 0
IsRow widths cells line = FitWidths widths cells × (str_to_ascii_lowercase line ≡ row_text widths cells)

-- the lines are the rows of these cells, row after row
abbrev pub AreRows : (widths cells : List ℕ) (lines : List (List ℕ)) → Type 0
AreRows widths cells [] = cells ≡ []
AreRows widths cells (line ∷ lines) = IsRow widths (take (length widths) cells) line × AreRows widths (drop (length widths) cells) lines

-- all lines are rows
abbrev pub AreAllRows : (widths : List ℕ) (lines : List (List ℕ)) → Type 0
AreAllRows widths lines = (cells : List ℕ) × AreRows widths cells lines

-- the line is no row
abbrev pub IsBad : (widths line : List ℕ) → Type 0
IsBad widths line = (cells : List ℕ) → IsRow widths cells line → ⊥

-- all lines are rows, and there are not too many
pub record AreVectors (widths cells : List ℕ) (lines : List (List ℕ)) : Type 0 where
  pub few : length lines ≤ MAX_ROWS
  pub rows : AreRows widths cells lines

-- the line of this number, from 1, is the first that is no row, and stands where a row may
pub record IsFirstBadLine (widths : List ℕ) (lines : List (List ℕ)) (line : ℕ) : Type 0 where
  pub counted : 1 ≤ line
  pub few : line ≤ MAX_ROWS
  pub good : AreAllRows widths (take (line - 1) lines)
  pub bad : IsSomeAnd (slice_get lines (line - 1)) (IsBad widths)

-- all lines that may stand are rows, and there are more
pub record AreTooMany (widths : List ℕ) (lines : List (List ℕ)) : Type 0 where
  pub good : AreAllRows widths (take MAX_ROWS lines)
  pub more : MAX_ROWS < length lines

-- what reading gives, unless memory runs out
abbrev pub IsReading : (widths : List ℕ) (lines : List (List ℕ)) → Result (List ℕ) VecFault → Type 0
IsReading widths lines (Ok cells) = AreVectors widths cells lines
IsReading widths lines (Err (faults.BadLine line)) = IsFirstBadLine widths lines line
IsReading widths lines (Err faults.TooMany) = AreTooMany widths lines
IsReading widths lines (Err faults.Memory) = ⊥

-- lines are rows of one list of cells, or have one fault
abbrev pub HasOneReading : Type 0
HasOneReading = (widths : List ℕ) (lines : List (List ℕ)) (a b : Result (List ℕ) VecFault)
    → IsReading widths lines a → IsReading widths lines b → a ≡ b
