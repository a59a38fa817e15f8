-- Rows of numbers, and the row in a stream: the numbers of its words one after another.
use Rattle.std.specs.Prelude.{ℕ, ◌*◌, List, ◌++◌, map, take, drop, replicate}
use Rattle.opgen_num.specs.Words.{nat}
use Rattle.opgen_streams.specs.Streams.{words_in}

-- the numbers of the words in a stream
abbrev pub row_in : (widths : List ℕ) (lanes : List (List ℕ)) (k : ℕ) → List ℕ
row_in widths lanes k = map nat (words_in widths lanes k)

-- the cells of a row, counted from 0: as many as there are
abbrev pub row_at : (columns row : ℕ) (cells : List ℕ) → List ℕ
row_at columns row cells = take columns (drop (row * columns) cells)

-- the cells of a row, and zeros in place of those that are not there
abbrev pub row_with_zeros : (columns row : ℕ) (cells : List ℕ) → List ℕ
row_with_zeros columns row cells = take columns (drop (row * columns) cells ++ replicate columns 0)
