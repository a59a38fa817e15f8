-- Runs over rows of numbers: a sound design has one, and each step of a simulator is its next row.
use Rattle.std.proofs.Common.{◌≡◌, ℕ, zero, suc, ◌+◌, ◌*◌, ◌≤◌, Bool, true, false, cond, List, [], ◌∷◌, ◌++◌, length, map, take, drop, refl, sym, ap, ◌∙◌, subst, arith, append-nil}
use Rattle.std.specs.Prelude.{All}
use Rattle.std.specs.List.{concat}
use Rattle.std.proofs.Math.ListN.{drop_of_length-le}
use Rattle.std.proofs.lemmas.List.{length-map, length-take-le, length-drop, take_all, take_at, drop_at}
use Rattle.std.proofs.lemmas.List.Elements.{All-nil, All-cons}
use Rattle.opgen_num.specs.WordLaws.{length-word}
use Rattle.opgen_num.specs.Words.{nat, FitWidths, words_of}
use Rattle.opgen_num.proofs.Words.{nat-below}
use Rattle.opgen_design.specs.declared.design.Design.{Design}
use Rattle.opgen_design.specs.declared.design.Dir.{Dir}
use Rattle.opgen_design.specs.declared.design.Port.{Port}
use Rattle.opgen_design.specs.Run.{Words, Cycle, RunsOn, AreWords, at_ports, is_out, initial_words, input_widths, output_widths, words_at_outputs}
use Rattle.opgen_design.specs.Sound.{IsSound, port_widths}
use Rattle.opgen_runs.specs.Registers.{SameRegisters}
use Rattle.opgen_runs.specs.Rows.{IsRunOf, RunsRows, output_cells, rows_words}
use Rattle.opgen_runs.specs.Step.{IsStep}
use Rattle.opgen_runs.proofs.HasRun.{a-run, run-kept}
use Rattle.opgen_runs.proofs.OneRun.{runs-one, next-one}
use Rattle.opgen_runs.proofs.Starts.{at_ports-length}

-- what is made of the items at ports of a direction stands at them
module _ {X Y : Type 0} (f : X → Y) (is : Dir → Bool) where
  pub at_ports-map : (ps : List Port) (xs : List X) → map f (at_ports is ps xs) ≡ at_ports is ps (map f xs)
  at_ports-map [] xs = refl
  at_ports-map (p ∷ ps) [] = refl
  at_ports-map (p ∷ ps) (x ∷ xs) = put (is p.dir) (at_ports is ps xs) (at_ports is ps (map f xs)) (at_ports-map ps xs)
    where
      put : (b : Bool) (ys : List X) (zs : List Y) → map f ys ≡ zs → map f (cond b (x ∷ ys) ys) ≡ cond b (f x ∷ zs) zs
      put true ys zs e = ap (λ ks. f x ∷ ks) e
      put false ys zs e = e

words_of-widths : (widths cells : List ℕ) → length widths ≤ length cells → AreWords widths (words_of widths cells)
words_of-widths [] cells room = refl
words_of-widths (w ∷ widths) [] room = absurd (omega (arith, room))
words_of-widths (w ∷ widths) (c ∷ cells) room =
    ap (λ n. n ∷ map length (words_of widths cells)) (length-word w c)
    ∙ ap (λ ns. w ∷ ns) (words_of-widths widths cells (omega (arith, room)))

pub rows_words-widths : (widths : List ℕ) (rows : ℕ) (cells : List ℕ) → rows * length widths ≤ length cells
    → All (AreWords widths) (rows_words widths rows cells)
rows_words-widths widths zero cells room = All-nil (AreWords widths)
rows_words-widths widths (suc rows) cells room =
    let n = length widths in
    let whole : suc rows * n ≡ n + rows * n = omega arith in
    let first : length (take n cells) ≡ n = length-take-le n cells (omega (arith, room, whole)) in
    All-cons (AreWords widths) (words_of widths (take n cells)) (rows_words widths rows (drop n cells))
    (words_of-widths widths (take n cells) (omega (arith, first)))
    (rows_words-widths widths rows (drop n cells) (omega (arith, room, whole, length-drop n cells)))

-- a sound design has a run over rows of cells, if there are as many cells
pub some_run : (d : Design) → IsSound d → (rows : ℕ) (cells : List ℕ) → rows * length (input_widths d) ≤ length cells
    → (outputs : List ℕ) × IsRunOf d rows cells outputs
some_run d sound rows cells room =
    let r = a-run d sound (rows_words (input_widths d) rows cells) (rows_words-widths (input_widths d) rows cells room) in
    (concat (map (output_cells d) r.0), record { words = r.0; runs = r.1; outputs_are = refl })

-- and no other
pub one_outputs : (d : Design) → IsSound d → (rows : ℕ) (inputs outputs other : List ℕ) → IsRunOf d rows inputs outputs
    → IsRunOf d rows inputs other → outputs ≡ other
one_outputs d sound rows inputs outputs other h k =
    let start = initial_words d.signals in
    let words = runs-one d sound (rows_words (input_widths d) rows inputs) start start (λ i to e g. refl) h.words k.words h.runs k.runs in
    h.outputs_are ∙ ap (λ vs. concat (map (output_cells d) vs)) words ∙ sym k.outputs_are

-- a run from other words that are the same at the registers
pub rows-kept : (d : Design) (now others : List (List Bool)) (rows : ℕ) (inputs outputs : List ℕ) → SameRegisters d now others
    → RunsRows d now rows inputs outputs → RunsRows d others rows inputs outputs
rows-kept d now others rows inputs outputs same run = record {
  words = run.words;
  runs = run-kept d (rows_words (input_widths d) rows inputs) now others run.words same run.runs;
  outputs_are = run.outputs_are;
}

-- a number for each output port
pub length-cells : (d : Design) (now given next : List (List Bool)) (v : Words) → Cycle d now given v next
    → length (output_cells d v) ≡ length (output_widths d)
length-cells d now given next v cycle =
    let widths = map (λ p. p.width) d.ports in
    let ports : length v.ports ≡ length widths = sym (length-map v.ports length) ∙ ap length cycle.port_widths in
    length-map (words_at_outputs d v) nat ∙ at_ports-length is_out d.ports v.ports widths ports

nats-fit : (ws : List (List Bool)) → FitWidths (map length ws) (map nat ws)
nats-fit [] = tt
nats-fit (w ∷ ws) = (nat-below w, nats-fit ws)

-- in a cycle each output port has a number below two to its width
pub cells-fit : (d : Design) (now given next : List (List Bool)) (v : Words) → Cycle d now given v next
    → FitWidths (at_ports is_out d.ports (port_widths d)) (output_cells d v)
cells-fit d now given next v cycle =
    let widths : map length (words_at_outputs d v) ≡ at_ports is_out d.ports (port_widths d) =
    at_ports-map length is_out d.ports v.ports ∙ ap (at_ports is_out d.ports) cycle.port_widths in
    subst (λ ws. FitWidths ws (output_cells d v)) widths (nats-fit (words_at_outputs d v))

pub step-fits : (d : Design) (now next : List (List Bool)) (row numbers : List ℕ) → IsStep d now row next numbers
    → FitWidths (at_ports is_out d.ports (port_widths d)) numbers
step-fits d now next row numbers step =
    subst (FitWidths (at_ports is_out d.ports (port_widths d))) (sym step.outputs_are)
    (cells-fit d now (words_of (input_widths d) row) next step.words step.cycle)

-- a step with the first row of inputs gives the first row of outputs, and the rows after it are the run from there on
pub row_after : (d : Design) → IsSound d → (now next : List (List Bool)) (rows : ℕ) (inputs outputs row numbers : List ℕ)
    → RunsRows d now (suc rows) inputs outputs → IsStep d now row next numbers → row ≡ take (length (input_widths d)) inputs
    → (numbers ≡ take (length numbers) outputs)
    × RunsRows d next rows (drop (length (input_widths d)) inputs) (drop (length numbers) outputs)
row_after d sound now next rows inputs outputs row numbers run step first = by run.words run.runs run.outputs_are
  where
    by : (vs : List Words) → RunsOn d now (rows_words (input_widths d) (suc rows) inputs) vs → outputs ≡ concat (map (output_cells d) vs)
        → (numbers ≡ take (length numbers) outputs)
        × RunsRows d next rows (drop (length (input_widths d)) inputs) (drop (length numbers) outputs)
    by [] runs are = absurd runs
    by (v ∷ vs) (after, cycle, later) are =
        let widths = input_widths d in
        let given = words_of widths (take (length widths) inputs) in
        let here : Cycle d now given step.words next = subst (λ r. Cycle d now (words_of widths r) step.words next) first step.cycle in
        let none : SameRegisters d now now = λ i to e g. refl in
        let both : step.words ∷ [] ≡ v ∷ [] =
        runs-one d sound (given ∷ []) now now none (step.words ∷ []) (v ∷ []) (next, here, tt) (after, cycle, tt) in
        let same : step.words ≡ v = cc in
        let numbers_are : numbers ≡ output_cells d v = step.outputs_are ∙ ap (output_cells d) same in
        let rest = concat (map (output_cells d) vs) in
        let whole : outputs ≡ numbers ++ rest = are ∙ ap (λ xs. xs ++ rest) (sym numbers_are) in
        let registers : SameRegisters d after next =
        next-one d sound now now given none v step.words after next cycle here in (
          sym (ap (take (length numbers)) whole ∙ take_at numbers rest (length numbers) refl),
          record {
            words = vs;
            runs = run-kept d (rows_words widths rows (drop (length widths) inputs)) after next vs registers later;
            outputs_are = ap (drop (length numbers)) whole ∙ drop_at numbers rest (length numbers) refl;
          },
        )

-- a buffer that is written whole
pub written_back : {X : Type 0} (len : ℕ) (new old : List X) → len ≡ length old → length new ≡ length old
    → take len (new ++ drop (length new) old) ≡ new
written_back len new old e f =
    ap (λ xs. take len (new ++ xs)) (drop_of_length-le old (omega (arith, f)))
    ∙ ap (take len) (append-nil new)
    ∙ take_all len new (omega (arith, e, f))
