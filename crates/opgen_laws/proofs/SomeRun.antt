-- A sound design has a run over rows of cells that fit its input ports, and a text of it.
use Rattle.std.proofs.Common.{ℕ, List, refl, arith}
use Rattle.opgen_num.specs.Words.{AreRowsOfCells}
use Rattle.opgen_num.proofs.RowsOfCells.{length-rows_of_cells}
use Rattle.opgen_design.specs.declared.design.Design.{Design}
use Rattle.opgen_design.specs.Run.{input_widths, output_widths}
use Rattle.opgen_design.specs.Sound.{IsSound}
use Rattle.opgen_runs.proofs.Rows.{some_run as a_run}
use Rattle.opgen_vec.specs.Writing.{rows_text}
use Rattle.opgen_runs.specs.Rows.{IsRunOf}
use Rattle.opgen_top.specs.Running.{IsRunText}

module _ (d : Design) (sound : IsSound d) (rows : ℕ) (cells : List ℕ) (fit : AreRowsOfCells (input_widths d) rows cells) where
  pub some_run : (outputs : List ℕ) × IsRunOf d rows cells outputs
  some_run = a_run d sound rows cells (omega (arith, length-rows_of_cells (input_widths d) cells rows fit))

  pub some_text : (text : List ℕ) × IsRunText d rows cells text
  some_text =
      let r = some_run in
      (rows_text (input_widths d) (output_widths d) rows cells r.0, record { outputs = r.0; run = r.1; written = refl })
