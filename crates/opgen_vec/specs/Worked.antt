-- The definitions on worked rows.
use Rattle.std.specs.Prelude.{◌≡◌, ℕ, true, false, List, [], ◌∷◌, map, codes}
use Rattle.std.specs.Str.{str_to_ascii_lowercase}
use Rattle.std.specs.Str.Lines.{lines}
use Rattle.opgen_num.specs.Words.{words_of}
use Rattle.opgen_streams.specs.Rows.{row_in}
use Rattle.opgen_streams.specs.Streams.{words_in}
use Rattle.opgen_vec.specs.Rows.{row_text}
use Rattle.opgen_vec.specs.Writing.{rows_text}
use Rattle.opgen_vec.specs.Stimulus.{next, drawn}
use Rattle.opgen_vec.specs.Streams.{row_or_zeros, rows_in}

-- rows of one and of two ports, lines with and without a carriage return, and texts of runs with and without inputs
pub record TextsCompute : Type 0 where
  pub row : row_text (5 ∷ 2 ∷ []) (31 ∷ 3 ∷ []) ≡ codes "1f 3"
  pub capitals : str_to_ascii_lowercase (codes "1F 3") ≡ codes "1f 3"
  pub two_lines : lines (codes "f\r\ng") ≡ codes "f" ∷ codes "g" ∷ []
  pub run : rows_text (4 ∷ []) (6 ∷ []) 3 (0 ∷ 1 ∷ 15 ∷ []) (0 ∷ 3 ∷ 45 ∷ []) ≡ codes "0 : 00\n1 : 03\nf : 2d\n"
  pub no_inputs : rows_text [] (4 ∷ []) 1 [] (10 ∷ []) ≡ codes " : a\n"
  pub no_outputs : rows_text (4 ∷ []) [] 1 (10 ∷ []) [] ≡ codes "a : \n"

-- the first draws of four bits from the seed 0
abbrev pub DrawsCompute : Type 0
DrawsCompute = map (drawn 4) (next 0 ∷ next (next 0) ∷ next (next (next 0)) ∷ []) ≡ 1 ∷ 1 ∷ 9 ∷ []

-- the rows 1 1 and 2 0 of a column of two bits and a column of one, in the streams 0 and 1
abbrev pub worked_cells : List ℕ
worked_cells = 1 ∷ 1 ∷ 2 ∷ 0 ∷ []

abbrev pub worked_lanes : List (List ℕ)
worked_lanes = (1 ∷ 0 ∷ 0 ∷ 0 ∷ []) ∷ (2 ∷ 0 ∷ 0 ∷ 0 ∷ []) ∷ (1 ∷ 0 ∷ 0 ∷ 0 ∷ []) ∷ []

pub record StreamsCompute : Type 0 where
  pub row : row_or_zeros 2 1 worked_cells ≡ 2 ∷ 0 ∷ []
  pub no_row : row_or_zeros 2 2 worked_cells ≡ 0 ∷ 0 ∷ []
  pub words : words_of (2 ∷ 1 ∷ []) (2 ∷ 0 ∷ []) ≡ (false ∷ true ∷ []) ∷ (false ∷ []) ∷ []
  pub stream : words_in (2 ∷ 1 ∷ []) worked_lanes 1 ≡ (false ∷ true ∷ []) ∷ (false ∷ []) ∷ []
  pub rows : rows_in (2 ∷ 1 ∷ []) worked_lanes 2 ≡ worked_cells
  pub second_word : row_in (1 ∷ []) ((0 ∷ 2 ∷ 0 ∷ 0 ∷ []) ∷ []) 65 ≡ 1 ∷ []
