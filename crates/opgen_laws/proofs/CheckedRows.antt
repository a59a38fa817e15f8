-- In a run over rows of cells: the words of a cycle and of the cycles before it stand for what `check` reads in its row.
use Rattle.std.proofs.Common.{◌≡◌, ℕ, zero, suc, ◌*◌, ◌<◌, ◌≤◌, false, List, [], ◌∷◌, length, drop, Some, refl, sym, ap, ◌∙◌, subst, arith}
use Rattle.std.specs.Prelude.{slice_get}
use Rattle.std.specs.List.{AllZip}
use Rattle.std.proofs.Math.Path.{fun_ext}
use Rattle.opgen_num.specs.Words.{AreRowsOfCells}
use Rattle.opgen_num.proofs.RowsOfCells.{length-rows_of_cells}
use Rattle.opgen_check.specs.Ports.{IsSamePort, PortsAgree}
use Rattle.opgen_check.specs.Verdict.{row_of, rows_up_to}
use Rattle.opgen_check.proofs.Sides.{in_columns, in_widths, out_widths}
use Rattle.opgen_design.specs.declared.design.Design.{Design}
use Rattle.opgen_design.specs.declared.design.Port.{Port}
use Rattle.opgen_design.specs.Run.{Words, initial_words, input_widths, words_at_outputs}
use Rattle.opgen_operator.specs.declared.spec.Spec.{Spec}
use Rattle.opgen_operator.specs.Outputs.{operator_ports, inputs_of, outputs_of, output_words, recent_words}
use Rattle.opgen_operator.specs.Serves.{ports_for}
use Rattle.opgen_ports.specs.Ports.{output_numbers, recent_numbers}
use Rattle.opgen_runs.specs.Rows.{IsRunOf, rows_words}
use Rattle.opgen_top.proofs.Taken.{run_long}
use Rattle.opgen_laws.proofs.RowCells.{output_same, recent_same}

length_rows : (widths : List ℕ) (rows : ℕ) (cells : List ℕ) → length (rows_words widths rows cells) ≡ rows
length_rows widths zero cells = refl
length_rows widths (suc rows) cells = ap suc (length_rows widths rows (drop (length widths) cells))

alike : (ps : List Port) → AllZip IsSamePort ps ps
alike [] = tt
alike (p ∷ ps) = (record { name = refl; dir = refl; width = refl }, alike ps)

-- the ports of a specification are those that it asks for
pub ports_agree : (spec : Spec) (d : Design) → d.ports ≡ ports_for spec false → PortsAgree spec d
ports_agree spec d ports = subst (λ ps. AllZip IsSamePort ps (operator_ports spec)) (sym ports) (alike (operator_ports spec))

module _ (spec : Spec) (some : 1 ≤ length (inputs_of spec)) (d : Design) (agree : PortsAgree spec d) (rows : ℕ) (cells outputs : List ℕ)
    (are : AreRowsOfCells (input_widths d) rows cells) (run : IsRunOf d rows cells outputs) where
  pub run_rows : length run.words ≡ rows
  run_rows =
      run_long d (initial_words d.signals) (rows_words (input_widths d) rows cells) run.words run.runs
      ∙ length_rows (input_widths d) rows cells

  room : rows * length (inputs_of spec) ≤ length cells
  room =
      let long = length-rows_of_cells (input_widths d) cells rows are in
      let columns = ap (λ n. rows * n) (in_columns spec d agree) in
      omega (arith, long, columns)

  -- the inputs up to a cycle
  pub recent_row : (t : ℕ) → t < rows → recent_words (inputs_of spec) (rows_words (input_widths d) rows cells) t
      ≡ recent_numbers (inputs_of spec) (rows_up_to (length (inputs_of spec)) t cells)
  recent_row t before =
      ap (λ ws. recent_words (inputs_of spec) (rows_words ws rows cells) t) (in_widths spec d agree)
      ∙ fun_ext (λ k. fun_ext (λ ago. recent_same (inputs_of spec) some rows cells room t k ago before))

  -- and the outputs in it
  pub shown_row : (row : ℕ) (v : Words) → slice_get run.words row ≡ Some v → output_words (outputs_of spec) (words_at_outputs d v)
      ≡ output_numbers (outputs_of spec) (row_of (length (outputs_of spec)) row outputs)
  shown_row row v at =
      let inputs = rows_words (input_widths d) rows cells in
      fun_ext (λ k.
      output_same d (outputs_of spec) (out_widths spec d agree) (initial_words d.signals) inputs run.words run.runs row v at k)
      ∙ ap (λ os. output_numbers (outputs_of spec) (row_of (length (outputs_of spec)) row os)) (sym run.outputs_are)
