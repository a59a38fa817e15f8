-- Runs over rows: how many numbers they have, and their text.
use Rattle.std.proofs.Common.{◌≡◌, ℕ, zero, suc, ◌+◌, ◌*◌, ◌<◌, Bool, List, [], ◌∷◌, length, map, take, drop, ap, ◌∙◌, arith, length-append}
use Rattle.std.specs.List.{concat}
use Rattle.opgen_num.proofs.RowsOfCells.{length-rows_of_cells}
use Rattle.opgen_num.specs.Words.{AreRowsOfCells, words_of}
use Rattle.opgen_design.specs.declared.design.Design.{Design}
use Rattle.opgen_design.specs.Run.{Words, RunsOn, initial_words, input_widths, output_widths}
use Rattle.opgen_runs.proofs.Rows.{length-cells}
use Rattle.opgen_vec.specs.Writing.{row_count_of, rows_text}
use Rattle.opgen_runs.specs.Rows.{output_cells, IsRunOf, rows_words}
use Rattle.opgen_top.specs.Running.{IsRunText}
use Rattle.opgen_sim.proofs.PortWidths.{sides}
use Rattle.opgen_top.proofs.Columns.{all_rows}

length-outputs : (d : Design) (now : List (List Bool)) (rows : ℕ) (inputs : List ℕ) (vs : List Words)
    → RunsOn d now (rows_words (input_widths d) rows inputs) vs
    → length (concat (map (output_cells d) vs)) ≡ rows * length (output_widths d)
length-outputs d now zero inputs [] r = omega arith
length-outputs d now zero inputs (v ∷ vs) r = absurd r
length-outputs d now (suc rows) inputs [] r = absurd r
length-outputs d now (suc rows) inputs (v ∷ vs) (next, cycle, r) =
    let widths = input_widths d in
    let first = length-cells d now (words_of widths (take (length widths) inputs)) next v cycle in
    let rest = length-outputs d next rows (drop (length widths) inputs) vs r in
    let whole : suc rows * length (output_widths d) ≡ length (output_widths d) + rows * length (output_widths d) = omega arith in
    length-append (output_cells d v) (concat (map (output_cells d) vs)) ∙ omega (arith, first, rest, whole)

-- a run has a number for each output port in each cycle
pub length-run : (d : Design) (rows : ℕ) (inputs outputs : List ℕ) → IsRunOf d rows inputs outputs
    → length outputs ≡ rows * length (output_widths d)
length-run d rows inputs outputs run = ap length run.outputs_are ∙ length-outputs d (initial_words d.signals) rows inputs run.words run.runs

-- the text of a run
pub run_written : (d : Design) (rows : ℕ) (inputs outputs text ws us outs : List ℕ) → ws ≡ input_widths d → us ≡ output_widths d
    → outs ≡ outputs → 0 < length d.ports → AreRowsOfCells (input_widths d) rows inputs
    → IsRunOf d rows inputs outputs → text ≡ rows_text ws us (row_count_of (length ws) (length us) inputs outs) inputs outs
    → IsRunText d rows inputs text
run_written d rows inputs outputs text ws us outs e f g some fit run is =
    let is' = input_widths d in
    let os = output_widths d in
    let all = all_rows (length is') (length os) rows inputs outputs (omega (arith, some, sides d))
    (length-rows_of_cells is' inputs rows fit) (length-run d rows inputs outputs run) in
    record {
      outputs = outputs;
      run = run;
      written =
          is
          ∙ ap (λ xs. rows_text xs us (row_count_of (length xs) (length us) inputs outs) inputs outs) e
          ∙ ap (λ xs. rows_text is' xs (row_count_of (length is') (length xs) inputs outs) inputs outs) f
          ∙ ap (λ xs. rows_text is' os (row_count_of (length is') (length os) inputs xs) inputs xs) g
          ∙ ap (λ n. rows_text is' os n inputs outputs) all;
    }
