-- Tables whose rows are at the addresses 0, 1, 2 and so on.
use Rattle.std.specs.Prelude.{ℕ, ◌≡◌, ◌<◌, Bool, List, length, map, slice_index, slice_index_or}
use Rattle.opgen_num.specs.Words.{nat}
use Rattle.opgen_runs.specs.Tables.{Row}

-- the row at a place has that place as its address
abbrev pub AreInOrder : List Row → Type 0
AreInOrder rows = (i : ℕ) → i < length rows → slice_index (map (λ r. nat r.0) rows) i ≡ i

-- the word of the row at a place, and past the rows the other word
abbrev pub word_of : (rows : List Row) (other : List Bool) (place : ℕ) → List Bool
word_of rows other place = slice_index_or (map (λ r. r.1) rows) place other
