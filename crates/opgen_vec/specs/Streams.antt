-- Rows of vectors as streams of bits, one row in a stream.
use Rattle.std.specs.Prelude.{ℕ, ◌*◌, List, take, drop, replicate, nat_lt, if◌then◌else◌}
use Rattle.std.specs.List.{flat_map, range_with_len}
use Rattle.opgen_streams.specs.Rows.{row_in}
use Rattle.opgen_vec.specs.Writing.{row_count}

-- the cells of a row, counted from 0, or zeros where there is no such row
abbrev pub row_or_zeros : (columns row : ℕ) (cells : List ℕ) → List ℕ
row_or_zeros columns row cells =
    if nat_lt row (row_count columns cells) then take columns (drop (row * columns) cells) else replicate columns 0

-- the cells of the rows in so many streams, from the first on
abbrev pub rows_in : (widths : List ℕ) (lanes : List (List ℕ)) (count : ℕ) → List ℕ
rows_in widths lanes count = flat_map (row_in widths lanes) (range_with_len 0 count)
