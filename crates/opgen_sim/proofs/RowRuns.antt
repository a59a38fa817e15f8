-- A run over rows, by its rows: the words of each, and the registers' words before it.
use Rattle.std.proofs.Common.{◌≡◌, ℕ, zero, suc, ◌+◌, ◌*◌, ◌<◌, Bool, List, [], ◌∷◌, ◌++◌, length, take, drop, refl, sym, ap, ◌∙◌, subst, arith}
use Rattle.std.proofs.lemmas.List.{length-drop, drop-drop, take-append-drop}
use Rattle.opgen_num.specs.Words.{words_of}
use Rattle.opgen_design.specs.declared.design.Design.{Design}
use Rattle.opgen_design.specs.Run.{Words, Cycle, RunsOn, initial_words, input_widths, output_widths}
use Rattle.opgen_design.specs.Sound.{IsSound}
use Rattle.opgen_runs.proofs.Rows.{some_run}
use Rattle.opgen_runs.specs.Rows.{output_cells, RunsRows, rows_words}
use Rattle.opgen_streams.specs.Rows.{row_at}

abbrev pub columns : Design → ℕ
columns d = length (input_widths d)

abbrev pub out_columns : Design → ℕ
out_columns d = length (output_widths d)

-- the words of each row, and the registers' words before it; cells that have the row's outputs at each row are the run's
pub record RowRun (d : Design) (now : List (List Bool)) (rows : ℕ) (cells : List ℕ) : Type 0 where
  pub words : ℕ → Words
  pub state : ℕ → List (List Bool)
  pub start : state 0 ≡ now
  pub cycle : (t : ℕ) → t < rows → Cycle d (state t) (words_of (input_widths d) (row_at (columns d) t cells)) (words t) (state (suc t))
  pub whole : (outputs : List ℕ) → length outputs ≡ rows * out_columns d
      → ((t : ℕ) → t < rows → row_at (out_columns d) t outputs ≡ output_cells d (words t)) → RunsRows d now rows cells outputs

abbrev first_then : {X : Type 0} → X → (ℕ → X) → ℕ → X
first_then x later zero = x
first_then x later (suc t) = later t

no_cells : (cells : List ℕ) → length cells ≡ 0 → cells ≡ []
no_cells [] e = refl
no_cells (c ∷ cells) e = absurd (omega (arith, e))

first_row : (wide : ℕ) (cells : List ℕ) → row_at wide 0 cells ≡ take wide cells
first_row wide cells = let none : 0 * wide ≡ 0 = omega arith in ap (λ n. take wide (drop n cells)) none

later_row : (wide t : ℕ) (cells : List ℕ) → row_at wide (suc t) cells ≡ row_at wide t (drop wide cells)
later_row wide t cells =
    let sum : suc t * wide ≡ wide + t * wide = omega arith in
    ap (λ n. take wide (drop n cells)) sum ∙ ap (take wide) (sym (drop-drop (t * wide) wide cells))

module _ (d : Design) (now next : List (List Bool)) (v : Words) (rows : ℕ) (cells : List ℕ)
    (here : Cycle d now (words_of (input_widths d) (take (columns d) cells)) v next) (later : RowRun d next rows (drop (columns d) cells)) where
  cycles : (t : ℕ) → t < suc rows → Cycle d (first_then now later.state t) (words_of (input_widths d) (row_at (columns d) t cells))
      (first_then v later.words t) (later.state t)
  cycles zero l =
      rw (first_row (columns d) cells) (subst (Cycle d now (words_of (input_widths d) (take (columns d) cells)) v) (sym later.start) here)
  cycles (suc t) l = rw (later_row (columns d) t cells) (later.cycle t (omega (arith, l)))

  after_first : (outputs : List ℕ) → take (out_columns d) outputs ≡ output_cells d v
      → RunsRows d next rows (drop (columns d) cells) (drop (out_columns d) outputs) → RunsRows d now (suc rows) cells outputs
  after_first outputs front rest = record {
    words = v ∷ rest.words;
    runs = (next, here, rest.runs);
    outputs_are = sym (take-append-drop (out_columns d) outputs)
        ∙ ap (λ xs. xs ++ drop (out_columns d) outputs) front
        ∙ ap (λ xs. output_cells d v ++ xs) rest.outputs_are;
  }

  runs : (outputs : List ℕ) → length outputs ≡ suc rows * out_columns d
      → ((t : ℕ) → t < suc rows → row_at (out_columns d) t outputs ≡ output_cells d (first_then v later.words t))
      → RunsRows d now (suc rows) cells outputs
  runs outputs len each =
      let wide : suc rows * out_columns d ≡ out_columns d + rows * out_columns d = omega arith in
      after_first outputs (sym (first_row (out_columns d) outputs) ∙ each 0 (omega arith))
      (later.whole (drop (out_columns d) outputs) (omega (arith, len, wide, length-drop (out_columns d) outputs))
      (λ t l. sym (later_row (out_columns d) t outputs) ∙ each (suc t) (omega (arith, l))))

  one_more : RowRun d now (suc rows) cells
  one_more = record {
    words = first_then v later.words;
    state = first_then now later.state;
    start = refl;
    cycle = cycles;
    whole = runs;
  }

row_run : (d : Design) (rows : ℕ) (now : List (List Bool)) (cells : List ℕ) (vs : List Words) → RunsOn d now (rows_words (input_widths d) rows cells) vs
    → RowRun d now rows cells
row_run d zero now cells [] h = record {
  words = λ t. record { signals = []; ports = [] };
  state = λ t. now;
  start = refl;
  cycle = λ t l. absurd (omega (arith, l));
  whole = λ outputs len each. record { words = []; runs = tt; outputs_are = no_cells outputs (omega (arith, len)) };
}
row_run d zero now cells (v ∷ vs) h = absurd h
row_run d (suc rows) now cells [] h = absurd h
row_run d (suc rows) now cells (v ∷ vs) (next, here, later) =
    one_more d now next v rows cells here (row_run d rows next (drop (columns d) cells) vs later)

-- a sound design has one over rows of cells
pub has_row_run : (d : Design) → IsSound d → (rows : ℕ) (cells : List ℕ) → length cells ≡ rows * columns d
    → RowRun d (initial_words d.signals) rows cells
has_row_run d sound rows cells len =
    let r = some_run d sound rows cells (omega (arith, len)) in
    row_run d rows (initial_words d.signals) cells r.1.words r.1.runs
