-- How far the streams have come: what each holds of the run's registers, and which rows are done.
use Rattle.std.proofs.Common.{◌≡◌, ℕ, suc, ◌+◌, ◌-◌, ◌*◌, ◌/◌, ◌%◌, ◌<◌, ◌≤◌, Bool, true, false, List, length, map, refl, sym, ap, ◌∙◌, subst, inl, inr, arith}
use Rattle.std.specs.Prelude.{◌⊎◌, nat_lt, if◌then◌else◌}
use Rattle.std.proofs.Math.Nat.{mul-le-mul}
use Rattle.std.proofs.lemmas.Bool.{cases_lt, cases_eq, ltb-true}
use Rattle.std.proofs.lemmas.Nat.{div-add-mod', div_below, mod_below}
use Rattle.opgen_num.specs.Words.{nat, words_of}
use Rattle.opgen_design.specs.declared.design.Design.{Design}
use Rattle.opgen_design.specs.Run.{Cycle, initial_words, input_widths, output_widths}
use Rattle.opgen_design.specs.Sound.{IsSound, signal_widths}
use Rattle.opgen_sim.proofs.Cycles.{SameUpTo, next-same, same-from-zero, same-registers}
use Rattle.opgen_design.specs.Depth.{HasDepth}
use Rattle.opgen_lanes.specs.Steps.{Running, AreNew, IsStepIn}
use Rattle.opgen_runs.proofs.OneRun.{next-one, words-same}
use Rattle.opgen_runs.specs.Registers.{SameRegisters}
use Rattle.opgen_runs.specs.Rows.{output_cells, IsRunOf}
use Rattle.opgen_streams.specs.Rows.{row_at, row_in}
use Rattle.opgen_streams.specs.Streams.{streams, words_in}
use Rattle.opgen_sim.proofs.RowRuns.{columns, out_columns, RowRun, has_row_run}

-- while the first stream runs this row, the outputs of a stream count
abbrev pub Counts : (depth k row : ℕ) → Type 0
Counts depth k row = (k ≡ 0) ⊎ (depth ≤ row)

abbrev pub held_in : Design → (held : List (List ℕ)) → (k : ℕ) → List (List Bool)
held_in d held k = words_in (signal_widths d) held k

-- before the first stream's row: it holds the run's registers, and each stream those up to the rank that its rows have filled
pub record Progress (d : Design) (rows depth apart row : ℕ) (cells : List ℕ) (held : List (List ℕ)) (results : List ℕ) : Type 0 where
  pub run : RowRun d (initial_words d.signals) rows cells
  pub has : HasDepth d depth
  pub first : row ≤ rows → SameRegisters d (held_in d held 0) (run.state row)
  pub filled : (k : ℕ) → k < streams → row + k * apart ≤ rows → SameUpTo d has.rank row (held_in d held k) (run.state (row + k * apart))
  pub done : (k s : ℕ) → k < streams → s < row → Counts depth k s → s + k * apart < rows
      → row_at (out_columns d) (s + k * apart) results ≡ output_cells d (run.words (s + k * apart))

-- before the first row
pub begun : (d : Design) → IsSound d → (rows depth apart : ℕ) (cells : List ℕ) (l : Running) (results : List ℕ) → HasDepth d depth
    → length cells ≡ rows * columns d → AreNew d l → Progress d rows depth apart 0 cells l.held results
begun d sound rows depth apart cells l results has len new =
    let run = has_row_run d sound rows cells len in
    record {
      run = run;
      has = has;
      first = λ le. subst (SameRegisters d (held_in d l.held 0)) (sym run.start) (new.registers 0 (omega arith));
      filled = λ k few le. same-from-zero d has.rank has.ranks (held_in d l.held k) (run.state (0 + k * apart));
      done = λ k s few none. absurd (omega (arith, none));
    }

-- a row that was run is not run again
apart-from : (depth apart row s k j : ℕ) → s < row → row < depth + apart → Counts depth k s → s + k * apart ≡ row + j * apart → ⊥
apart-from depth apart row s k j before within counts e = elim counts [
  | inl none ↦ omega (arith, before, e, ap (λ n. n * apart) none)
  | inr full ↦ elim (cases_lt j k) [
    | inl l ↦
        let more : suc j * apart ≤ k * apart = mul-le-mul l (omega arith) in
        omega (arith, before, within, full, e, more)
    | inr l ↦
        let more : k * apart ≤ j * apart = mul-le-mul l (omega arith) in
        omega (arith, before, e, more)
  ]
]

-- the streams whose outputs count
few-or-all : (b : Bool) (depth row k : ℕ) → nat_lt row depth ≡ b → k < streams → Counts depth k row
    → k < (if b then 1 else streams)
few-or-all true depth row k e few counts = elim counts [
  | inl none ↦ omega (arith, none)
  | inr full ↦ let less = ltb-true row depth e in absurd (omega (arith, full, less))
]
few-or-all false depth row k e few counts = few

-- one row further in each stream
module _ (d : Design) (sound : IsSound d) (rows depth apart row : ℕ) (cells : List ℕ) (held inputs next outputs : List (List ℕ))
    (results new : List ℕ) (within : row < depth + apart) (p : Progress d rows depth apart row cells held results)
    (given : (k : ℕ) → k < streams → row + k * apart < rows
    → words_in (input_widths d) inputs k ≡ words_of (input_widths d) (row_at (columns d) (row + k * apart) cells))
    (steps : (k : ℕ) → k < streams → IsStepIn k d held inputs next outputs)
    (written : (k : ℕ) → k < (if nat_lt row depth then 1 else streams) → row + k * apart < rows
    → row_at (out_columns d) (row + k * apart) new ≡ row_in (output_widths d) outputs k)
    (kept : (t : ℕ) → ((k : ℕ) → k < (if nat_lt row depth then 1 else streams) → ¬ t ≡ row + k * apart)
    → row_at (out_columns d) t new ≡ row_at (out_columns d) t results) where
  abbrev row_words : ℕ → List (List Bool)
  row_words t = words_of (input_widths d) (row_at (columns d) t cells)

  of_stream : (k : ℕ) (few : k < streams) → row + k * apart < rows
      → Cycle d (held_in d held k) (row_words (row + k * apart)) (steps k few).words (held_in d next k)
  of_stream k few l =
      let step = steps k few in
      subst (λ ws. Cycle d (held_in d held k) ws step.words (held_in d next k)) (given k few l) step.cycle

  same_at_first : (k : ℕ) → k ≡ 0 → row + k * apart ≤ rows → SameRegisters d (held_in d held k) (p.run.state (row + k * apart))
  same_at_first k none le =
      let at : row + 0 * apart ≡ row = omega arith in
      rw none (rw at (p.first (omega (arith, le, ap (λ n. n * apart) none))))

  same_now : (k : ℕ) → k < streams → Counts depth k row → row + k * apart ≤ rows
      → SameRegisters d (held_in d held k) (p.run.state (row + k * apart))
  same_now k few counts le = elim counts [
    | inl none ↦ same_at_first k none le
    | inr full ↦ same-registers d p.has.rank row (held_in d held k) (p.run.state (row + k * apart))
        (λ s. omega (arith, full, p.has.most s)) (p.filled k few le)
  ]

  same_outputs : (k : ℕ) (few : k < streams) → Counts depth k row → (l : row + k * apart < rows)
      → row_in (output_widths d) outputs k ≡ output_cells d (p.run.words (row + k * apart))
  same_outputs k few counts l =
      let t = row + k * apart in
      let step = steps k few in
      let same : step.words ≡ p.run.words t
      = words-same d sound (held_in d held k) (p.run.state t) (row_words t) (same_now k few counts (omega (arith, l))) step.words
      (p.run.words t) (held_in d next k) (p.run.state (suc t)) (of_stream k few l) (p.run.cycle t l) in
      ap (map nat) step.outputs_are ∙ ap (output_cells d) same

  first_next : row + 1 ≤ rows → SameRegisters d (held_in d next 0) (p.run.state (row + 1))
  first_next le =
      let at : row + 0 * apart ≡ row = omega arith in
      let few : 0 < streams = omega arith in
      let l : row + 0 * apart < rows = omega (arith, le) in
      let here : Cycle d (held_in d held 0) (row_words row) (steps 0 few).words (held_in d next 0)
      = subst (λ t. Cycle d (held_in d held 0) (row_words t) (steps 0 few).words (held_in d next 0)) at (of_stream 0 few l) in
      let more : row + 1 ≡ suc row = omega arith in
      rw more (next-one d sound (held_in d held 0) (p.run.state row) (row_words row) (p.first (omega (arith, le))) (steps 0 few).words
      (p.run.words row) (held_in d next 0) (p.run.state (suc row)) here (p.run.cycle row (omega (arith, le))))

  filled_next : (k : ℕ) → k < streams → row + 1 + k * apart ≤ rows
      → SameUpTo d p.has.rank (row + 1) (held_in d next k) (p.run.state (row + 1 + k * apart))
  filled_next k few le =
      let t = row + k * apart in
      let l : t < rows = omega (arith, le) in
      let at : row + 1 + k * apart ≡ suc (row + k * apart) = omega arith in
      let more : row + 1 ≡ suc row = omega arith in
      rw (at, more) (next-same d sound (held_in d held k) (p.run.state t) (row_words t) (steps k few).words (p.run.words t) (held_in d next k)
      (p.run.state (suc t)) (of_stream k few l) (p.run.cycle t l) p.has.rank p.has.ranks row (p.filled k few (omega (arith, l))) p.has.no_enable)

  done_next : (k s : ℕ) → k < streams → s < row + 1 → Counts depth k s → s + k * apart < rows
      → row_at (out_columns d) (s + k * apart) new ≡ output_cells d (p.run.words (s + k * apart))
  done_next k s few before counts l = elim (cases_eq s row) [
    | inl e ↦
        let counts' : Counts depth k row = subst (Counts depth k) e counts in
        let l' : row + k * apart < rows = subst (λ n. n + k * apart < rows) e l in
        rw e (written k (few-or-all (nat_lt row depth) depth row k refl few counts') l' ∙ same_outputs k few counts' l')
    | inr n ↦
        let earlier : s < row = omega (arith, before, n) in
        kept (s + k * apart) (λ j less e. apart-from depth apart row s k j earlier within counts e) ∙ p.done k s few earlier counts l
  ]

  pub further : Progress d rows depth apart (row + 1) cells next new
  further = record { run = p.run; has = p.has; first = first_next; filled = filled_next; done = done_next }

-- after the last row
module _ (d : Design) (rows depth apart row : ℕ) (cells : List ℕ) (held : List (List ℕ)) (results : List ℕ)
    (p : Progress d rows depth apart row cells held results) (some : 0 < apart) (all : rows ≤ depth + streams * apart)
    (end : depth + apart ≤ row) (room : length results ≡ rows * out_columns d) where
  each : (t : ℕ) → t < rows → row_at (out_columns d) t results ≡ output_cells d (p.run.words t)
  each t l = elim (cases_lt t depth) [
    | inl before ↦
        let at : t + 0 * apart ≡ t = omega arith in
        subst (λ n. row_at (out_columns d) n results ≡ output_cells d (p.run.words n)) at
        (p.done 0 t (omega arith) (omega (arith, before, end)) (inl refl) (omega (arith, l)))
    | inr behind ↦
        let past = t - depth in
        let k = past / apart in
        let s = depth + past % apart in
        let parts : k * apart + past % apart ≡ past = div-add-mod' past apart in
        let rest : past % apart < apart = mod_below past apart some in
        let at : s + k * apart ≡ t = omega (arith, parts, behind) in
        let few : k < streams = div_below past apart streams some (omega (arith, l, all, behind)) in
        subst (λ n. row_at (out_columns d) n results ≡ output_cells d (p.run.words n)) at
        (p.done k s few (omega (arith, rest, end)) (inr (omega arith)) (omega (arith, at, l)))
  ]

  pub finished : IsRunOf d rows cells results
  finished = p.run.whole results room each

-- a row that is there
pub row_within : (columns rows t : ℕ) (cells : List ℕ) → length cells ≡ rows * columns → t < rows → (t + 1) * columns ≤ length cells
row_within columns rows t cells len l =
    let more : (t + 1) * columns ≤ rows * columns = mul-le-mul (omega (arith, l)) (omega arith) in
    omega (arith, len, more)
