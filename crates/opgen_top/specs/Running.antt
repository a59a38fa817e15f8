-- The text of a design's run over rows of numbers.
use Rattle.std.specs.Prelude.{ℕ, ◌≡◌, List}
use Rattle.opgen_design.specs.declared.design.Design.{Design}
use Rattle.opgen_design.specs.Run.{input_widths, output_widths}
use Rattle.opgen_runs.specs.Rows.{IsRunOf}
use Rattle.opgen_vec.specs.Writing.{rows_text}

-- a line for each cycle of the run over these inputs, with the row of the inputs and the row of the outputs
pub record IsRunText (d : Design) (rows : ℕ) (inputs text : List ℕ) : Type 0 where
  pub outputs : List ℕ
  pub run : IsRunOf d rows inputs outputs
  pub written : text ≡ rows_text (input_widths d) (output_widths d) rows inputs outputs
