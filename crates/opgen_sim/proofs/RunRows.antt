-- Runs over rows, a cycle at a time.
use Rattle.std.proofs.Common.{◌≡◌, ℕ, zero, suc, ◌-◌, ◌<◌, Bool, List, [], ◌∷◌, ◌++◌, length, take, drop, refl, sym, ap, ◌∙◌, subst, arith, append_assoc, append-nil}
use Rattle.opgen_num.specs.Words.{words_of}
use Rattle.opgen_design.specs.declared.design.Design.{Design}
use Rattle.opgen_design.specs.Run.{Words, Cycle, initial_words, input_widths, output_widths}
use Rattle.opgen_sim.specs.Sims.{Simulator, IsNew}
use Rattle.opgen_runs.specs.Step.{IsStep}
use Rattle.opgen_runs.proofs.Rows.{length-cells, rows-kept}
use Rattle.opgen_runs.specs.Rows.{output_cells, RunsRows, IsRunOf}

no_rows : (d : Design) (now : List (List Bool)) (inputs : List ℕ) → RunsRows d now 0 inputs []
no_rows d now inputs = record { words = []; runs = tt; outputs_are = refl }

first_row : (d : Design) (now next : List (List Bool)) (v : Words) (rows : ℕ) (inputs outputs : List ℕ)
    → Cycle d now (words_of (input_widths d) (take (length (input_widths d)) inputs)) v next
    → RunsRows d next rows (drop (length (input_widths d)) inputs) outputs → RunsRows d now (suc rows) inputs (output_cells d v ++ outputs)
first_row d now next v rows inputs outputs cycle later = record {
  words = v ∷ later.words;
  runs = (next, cycle, later.runs);
  outputs_are = ap (λ xs. output_cells d v ++ xs) later.outputs_are;
}

-- the cells so far are the outputs of the first rows: those of the rows that are left complete a run
abbrev pub HasRun : (d : Design) (all : ℕ) (given : List ℕ) (now : List (List Bool)) (left : ℕ) (inputs cells : List ℕ) → Type 0
HasRun d all given now left inputs cells = (outputs : List ℕ) → RunsRows d now left inputs outputs → IsRunOf d all given (cells ++ outputs)

pub one_cycle : (d : Design) (all : ℕ) (given : List ℕ) (now next : List (List Bool)) (v : Words) (left : ℕ) (inputs cells new : List ℕ)
    → HasRun d all given now left inputs cells → 0 < left
    → Cycle d now (words_of (input_widths d) (take (length (input_widths d)) inputs)) v next → new ≡ cells ++ output_cells d v
    → HasRun d all given next (left - 1) (drop (length (input_widths d)) inputs) new
one_cycle d all given now next v zero inputs cells new so_far some cycle e outputs later = absurd (omega (arith, some))
one_cycle d all given now next v (suc left) inputs cells new so_far some cycle e outputs later =
    let less : suc left - 1 ≡ left = omega arith in
    let later' = subst (λ n. RunsRows d next n (drop (length (input_widths d)) inputs) outputs) less later in
    let whole = so_far (output_cells d v ++ outputs) (first_row d now next v left inputs outputs cycle later') in
    subst (IsRunOf d all given) (sym (append_assoc cells (output_cells d v) outputs) ∙ ap (λ xs. xs ++ outputs) (sym e)) whole

pub whole_run : (d : Design) (all : ℕ) (given : List ℕ) (now : List (List Bool)) (left : ℕ) (inputs cells : List ℕ)
    → HasRun d all given now left inputs cells → left ≡ 0 → IsRunOf d all given cells
whole_run d all given now left inputs cells so_far end =
    subst (IsRunOf d all given) (append-nil cells) (so_far [] (subst (λ n. RunsRows d now n inputs []) (sym end) (no_rows d now inputs)))

pub one_step : (d e : Design) (all : ℕ) (given : List ℕ) (now next : List (List Bool)) (left : ℕ) (inputs cells row numbers new : List ℕ)
    → HasRun d all given now left inputs cells → 0 < left → e ≡ d
    → row ≡ take (length (input_widths d)) inputs → IsStep e now row next numbers → new ≡ cells ++ numbers
    → HasRun d all given next (left - 1) (drop (length (input_widths d)) inputs) new
one_step d e all given now next left inputs cells row numbers new so_far some same first step put =
    let here : IsStep d now row next numbers = subst (λ x. IsStep x now row next numbers) same step in
    let cycle = subst (λ r. Cycle d now (words_of (input_widths d) r) here.words next) first here.cycle in
    one_cycle d all given now next here.words left inputs cells new so_far some cycle (put ∙ ap (λ xs. cells ++ xs) here.outputs_are)

-- before the first cycle
pub run_start : (d : Design) (s : Simulator) (rows : ℕ) (inputs : List ℕ) → IsNew d s → HasRun d rows inputs s.registers rows inputs []
run_start d s rows inputs new outputs run =
    rows-kept d s.registers (initial_words d.signals) rows inputs outputs new.registers run

-- a step gives a number for each output port
pub length-step : (d e : Design) (now next : List (List Bool)) (row numbers : List ℕ) → e ≡ d → IsStep e now row next numbers
    → length numbers ≡ length (output_widths d)
length-step d e now next row numbers same step =
    let here : IsStep d now row next numbers = subst (λ x. IsStep x now row next numbers) same step in
    ap length here.outputs_are ∙ length-cells d now (words_of (input_widths d) row) next here.words here.cycle
