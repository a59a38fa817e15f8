-- Runs of a design over rows of numbers: a list of outputs is the design's run over the rows of a list of inputs.
use Rattle.std.specs.Prelude.{ℕ, zero, suc, ◌≡◌, Bool, List, [], ◌∷◌, length, map, take, drop}
use Rattle.std.specs.List.{concat}
use Rattle.opgen_num.specs.Words.{nat, words_of}
use Rattle.opgen_design.specs.declared.design.Design.{Design}
use Rattle.opgen_design.specs.Run.{Words, RunsOn, initial_words, input_widths, words_at_outputs}

-- the words of so many rows, row after row
abbrev pub rows_words : (widths : List ℕ) (rows : ℕ) (cells : List ℕ) → List (List (List Bool))
rows_words widths zero cells = []
rows_words widths (suc rows) cells = words_of widths (take (length widths) cells) ∷ rows_words widths rows (drop (length widths) cells)

-- the numbers of the output ports in a cycle
abbrev pub output_cells : Design → Words → List ℕ
output_cells d v = map nat (words_at_outputs d v)

-- in so many cycles from these words of the registers, the outputs are those of the inputs
pub record RunsRows (d : Design) (now : List (List Bool)) (rows : ℕ) (inputs outputs : List ℕ) : Type 0 where
  pub words : List Words
  pub runs : RunsOn d now (rows_words (input_widths d) rows inputs) words
  pub outputs_are : outputs ≡ concat (map (output_cells d) words)

-- the same from the initial words
abbrev pub IsRunOf : (d : Design) (rows : ℕ) (inputs outputs : List ℕ) → Type 0
IsRunOf d rows inputs outputs = RunsRows d (initial_words d.signals) rows inputs outputs
