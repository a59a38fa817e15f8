-- Rows of words: in hexadecimal, highest digit first, with one space between two words.
use Rattle.std.specs.Prelude.{ℕ, zero, suc, ◌+◌, ◌/◌, ◌%◌, ◌^◌, List, [], ◌∷◌, ◌++◌, codes}
use Rattle.std.specs.Char.{digit_char}

-- how many digits a word of so many bits has: a quarter, rounded up
abbrev pub digit_count : (width : ℕ) → ℕ
digit_count width = (width + 3) / 4

-- the lowest digits of a number, in lower case: the digit at a place is how often 16 ^ place goes into it, but for whole 16s
abbrev pub hex_text : (digits n : ℕ) → List ℕ
hex_text zero n = []
hex_text (suc place) n = digit_char (n / 16 ^ place % 16) ∷ hex_text place n

abbrev pub word_text : (width cell : ℕ) → List ℕ
word_text width cell = hex_text (digit_count width) cell

-- words, each after a space
abbrev pub spaced_text : (widths cells : List ℕ) → List ℕ
spaced_text (width ∷ widths) (cell ∷ cells) = codes " " ++ word_text width cell ++ spaced_text widths cells
spaced_text _ _ = []

-- a row: the first word, and then the others, each after a space
abbrev pub row_text : (widths cells : List ℕ) → List ℕ
row_text (width ∷ widths) (cell ∷ cells) = word_text width cell ++ spaced_text widths cells
row_text _ _ = []
