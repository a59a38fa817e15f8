-- What a row's text says, word after word.
use Rattle.std.specs.Prelude.{ℕ, ◌+◌, ◌*◌, ◌^◌, ◌==◌, List, [], ◌∷◌, length, take, drop, Option, Some, None, nat_lt, if◌then◌else◌}
use Rattle.std.specs.Char.{digit_value}
use Rattle.opgen_vec.specs.Rows.{digit_count}

-- the number of digits in base 16 after those of `before`, if all are digits
abbrev pub hex_value : (before : ℕ) → List ℕ → Option ℕ
hex_value before [] = Some before
hex_value before (c ∷ digits) = if nat_lt (digit_value c) 16 then hex_value (before * 16 + digit_value c) digits else None

abbrev pub below : (width : ℕ) → Option ℕ → Option ℕ
below width None = None
below width (Some n) = if nat_lt n (2 ^ width) then Some n else None

-- the word at the front of a text
abbrev pub word_at : (width : ℕ) → List ℕ → Option ℕ
word_at width text = if nat_lt (length text) (digit_count width) then None else below width (hex_value 0 (take (digit_count width) text))

-- the cells of words that stand each after a space, and nothing after them
abbrev pub joined : Option ℕ → Option (List ℕ) → Option (List ℕ)
joined None cells = None
joined (Some cell) None = None
joined (Some cell) (Some cells) = Some (cell ∷ cells)

abbrev pub spaced_word_at : (width : ℕ) → List ℕ → Option ℕ
spaced_word_at width [] = None
spaced_word_at width (c ∷ text) = if c == 32 then word_at width text else None

abbrev pub spaced_cells : (widths text : List ℕ) → Option (List ℕ)
spaced_cells [] text = if length text == 0 then Some [] else None
spaced_cells (width ∷ widths) text = joined (spaced_word_at width text) (spaced_cells widths (drop (1 + digit_count width) text))

-- the cells of a row
abbrev pub row_cells : (widths text : List ℕ) → Option (List ℕ)
row_cells [] text = if length text == 0 then Some [] else None
row_cells (width ∷ widths) text = joined (word_at width text) (spaced_cells widths (drop (digit_count width) text))
