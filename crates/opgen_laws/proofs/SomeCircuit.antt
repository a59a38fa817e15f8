-- That a specification or a workload has no answer is impossible: it has a circuit, or a refusal.
use Rattle.std.proofs.Common.{◌≡◌, inl, inr, ⊎_elim, ℕ, zero, suc, ◌-◌, ◌<◌, ◌≤◌, Bool, true, false, List, [], ◌∷◌, length, map, Option, Some, None, Result, Ok, Err, refl, sym, subst, arith}
use Rattle.std.specs.List.{concat}
use Rattle.std.proofs.lemmas.Bool.{cases_lt}
use Rattle.opgen_num.specs.Words.{AreRowsOfCells}
use Rattle.opgen_num.proofs.RowsOfCells.{length-rows_of_cells}
use Rattle.opgen_design.specs.declared.design.Design.{Design}
use Rattle.opgen_design.specs.declared.design.TheConstants.{MAX_SIGNALS}
use Rattle.opgen_design.specs.Run.{input_widths, output_widths}
use Rattle.opgen_part_laws.proofs.Classical.{decided}
use Rattle.opgen_net.specs.declared.net.Net.{Net}
use Rattle.opgen_net.specs.Classes.{classes}
use Rattle.opgen_operator.specs.declared.spec.Spec.{Spec}
use Rattle.opgen_operator.specs.Operator.{divisor}
use Rattle.opgen_operator.specs.Outputs.{inputs_of}
use Rattle.opgen_operator.specs.Valid.{IsValidSpec}
use Rattle.opgen_operator.proofs.Operators.{input_bits}
use Rattle.opgen_pipe.specs.declared.planning.Planned.{Planned}
use Rattle.opgen_pipe.specs.Cells.{design_cells, need}
use Rattle.opgen_pipe.specs.Copies.{net_latency}
use Rattle.opgen_pipe.specs.Pipelined.{design_of}
use Rattle.opgen_schedule.specs.Schedule.{greatest_time}
use Rattle.opgen_schedule.specs.Stage.{slot_at}
use Rattle.opgen_spec.specs.declared.fault.SpecFault.{SpecFault}
use Rattle.opgen_document.specs.Document.{tree}
use Rattle.opgen_spec.specs.Faults.{read}
use Rattle.opgen_spec.proofs.Validity.{valid_read}
use Rattle.opgen_target.specs.Delays.{Delays, setup}
use Rattle.opgen_target.specs.Ledger.{width_sum}
use Rattle.opgen_vec.specs.Stimulus.{stimulus_cells}
use Rattle.opgen_vec.specs.Writing.{rows_text}
use Rattle.opgen_vec.proofs.Draws.{rows_fit}
use Rattle.opgen_workload.specs.Filter.{workload_spec}
use Rattle.opgen_workload.specs.Judged.{Counts, IsGoodCycle}
use Rattle.opgen_workload.proofs.Valid.{workload_valid}
use Rattle.opgen_top.specs.declared.line.Line.TheVariants as printed
use Rattle.opgen_top.specs.Answer.{Answer, file, refusal, success}
use Rattle.opgen_top.specs.Circuit.{IsCircuit, IsNetFor, made_net, need_of, signals_of, slots_for}
use Rattle.opgen_operator.specs.Serves.{Serves}
use Rattle.opgen_top.specs.Kinds.{AreAddersOf, IsNetOf}
use Rattle.opgen_runs.specs.Rows.{IsRunOf, output_cells, rows_words}
use Rattle.opgen_top.specs.Lines.{vectors_name}
use Rattle.opgen_top.specs.Specified.{wrote, IsAnswerToSpec, IsGenerated, IsVectors, OnLines, OnReading, OnTable, OnTarget}
use Rattle.opgen_top.specs.Targets.{Device, first_of_name, takes_lines, tuned}
use Rattle.opgen_top.specs.Workload.{IsAnswerToWorkload, IsWorked, cycles, workload_cells}
use Rattle.opgen_top.proofs.ServedPorts.{served_widths}
use Rattle.opgen_runs.proofs.Rows.{rows_words-widths}
use Rattle.opgen_laws.proofs.ByKind.{NetLaws, of_kind}

-- ---- the net and the adders

some_net : NetLaws → (spec : Spec) → IsValidSpec spec → ((net : Net) (adders : List ℕ) → IsNetOf spec net → AreAddersOf spec adders → ⊥) → ⊥
some_net laws spec valid found = of_kind laws spec valid found spec.op refl

-- ---- the circuit, or a refusal by the table
abbrev plan_for : (spec : Spec) (enable : Bool) (net : Net) (table : Delays) → Planned
plan_for spec enable net table = record {
  design = design_of spec.name enable net (slot_at (slots_for spec table net));
  latency = net_latency net (slot_at (slots_for spec table net));
  slack = spec.period - setup table - greatest_time (slots_for spec table net);
  cells = map (width_sum (design_cells net (slot_at (slots_for spec table net)))) classes;
}

module _ (laws : NetLaws) (spec : Spec) (valid : IsValidSpec spec) (table : Delays) (enable : Bool) (said : Answer → Type 0)
    (made : (planned : Planned) (adders : List ℕ) → IsCircuit spec table enable planned adders → ((a : Answer) → said a → ⊥) → ⊥)
    (found : (a : Answer) → OnTable spec table a (said a) → ⊥) where
  on_net : (net : Net) (adders : List ℕ) → IsNetFor spec table net → AreAddersOf spec adders → ⊥
  on_net net adders of_spec are =
      ⊎_elim
      (λ (short : spec.period < need table net).
      found (refusal (printed.PeriodTooShort (need_of spec table of_spec.own)))
      (inl (record { net = net; of_spec = of_spec; short = short; answer = refl })))
      (λ (long : need table net ≤ spec.period). ⊎_elim
      (λ (many : MAX_SIGNALS < signals_of spec table net).
      found (refusal printed.TooLarge)
      (inr (inl (record { net = net; of_spec = of_spec; long_enough = long; many_signals = many; answer = refl }))))
      (λ (few : signals_of spec table net ≤ MAX_SIGNALS).
      made (plan_for spec enable net table) adders (record {
        net = net;
        of_spec = of_spec;
        are_adders = are;
        long_enough = long;
        few_signals = few;
        plan = record { design = refl; latency = refl; slack = refl; cells = refl };
      }) (λ a h. found a (inr (inr h))))
      (cases_lt MAX_SIGNALS (signals_of spec table net)))
      (cases_lt spec.period (need table net))

  some_table : ⊥
  some_table = some_net laws spec valid (λ own adders of_own. on_net (made_net spec table own) adders
      (record { own = own; is_own = of_own; made = refl }))

-- ---- the run of a circuit
some_run : (spec : Spec) → IsValidSpec spec → (latency : ℕ) (d : Design) → Serves spec latency false d → (seed count : ℕ)
    → (outputs : List ℕ) × IsRunOf d count (stimulus_cells spec seed count) outputs
some_run spec valid latency d serves seed count =
    let cells = stimulus_cells spec seed count in
    let ws = input_widths d in
    let fit : AreRowsOfCells ws count cells =
    subst (λ ks. AreRowsOfCells ks count cells) (sym (served_widths spec d serves.ports))
    (rows_fit (divisor spec.op) (inputs_of spec) count seed (input_bits spec.op valid.op.ranges)) in
    let run = serves.runs (rows_words ws count cells) (rows_words-widths ws count cells (omega (arith, length-rows_of_cells ws cells count fit))) in
    (concat (map (output_cells d) run.0), record { words = run.0; runs = run.1; outputs_are = refl })

some_count : (P : ℕ → Type 0) (most : ℕ) → ((count : ℕ) → Counts P most count → ⊥) → ⊥
some_count P zero found = found 0 refl
some_count P (suc most) found =
    some_count P most (λ count h. decided {P = P most} (λ d. elim d [
      | inl p ↦ found (suc count) (inl (p, h))
      | inr none ↦ without none count h
    ]))
  where
    without : (P most → ⊥) → (count : ℕ) → Counts P most count → ⊥
    without none zero h = found 0 (none, h)
    without none (suc count) h = found (suc count) (inr (none, h))

-- ---- from the bytes and the targets to the answer
on_lines : (b : Bool) (said : Answer → Type 0) → (((a : Answer) → said a → ⊥) → ⊥) → ((a : Answer) → OnLines b a (said a) → ⊥) → ⊥
on_lines true said some found = some found
on_lines false said some found = found (refusal printed.NotAdjustable) refl

on_target : (o : Option Device) (spec : Spec) (said : Delays → Answer → Type 0)
    → ((table : Delays) → ((a : Answer) → said table a → ⊥) → ⊥)
    → ((a : Answer) → OnTarget o spec a (λ table. said table a) → ⊥) → ⊥
on_target (Some device) spec said some found =
    let table = tuned device.delays spec.delays in
    on_lines (takes_lines device.adjustable spec.delays) (said table) (some table) found
on_target None spec said some found = found (refusal printed.UnknownTarget) refl

module _ (bytes : List ℕ) (devices : List Device) (said : Spec → Delays → Answer → Type 0)
    (some : (spec : Spec) → IsValidSpec spec → (table : Delays) → ((a : Answer) → OnTable spec table a (said spec table a) → ⊥) → ⊥)
  where
    on_reading : (r : Result Spec SpecFault) → ((spec : Spec) → r ≡ Ok spec → IsValidSpec spec)
        → ((a : Answer) → OnReading r a (λ spec. OnTarget (first_of_name spec.target devices) spec a
        (λ table. OnTable spec table a (said spec table a))) → ⊥) → ⊥
    on_reading (Ok spec) valid found =
        on_target (first_of_name spec.target devices) spec (λ table a. OnTable spec table a (said spec table a))
        (some spec (valid spec refl)) found
    on_reading (Err fault) valid found = found (refusal (printed.Refused fault)) refl

    on_bytes : ((a : Answer) → IsAnswerToSpec bytes devices said a → ⊥) → ⊥
    on_bytes found = on_reading (read (tree bytes)) (valid_read (tree bytes)) found

module _ (laws : NetLaws) where
  pub some_generated : (bytes : List ℕ) (devices : List Device) (enable : Bool)
      → ((a : Answer) → IsAnswerToSpec bytes devices (IsGenerated enable) a → ⊥) → ⊥
  some_generated bytes devices enable found =
      on_bytes bytes devices (IsGenerated enable) (
      λ spec valid table. some_table laws spec valid table enable (IsGenerated enable spec table) (
      λ planned adders circuit made. made (wrote spec planned adders)
      (record { planned = planned; adders = adders; circuit = circuit; answer = refl }))) found

  pub some_vectors : (bytes : List ℕ) (devices : List Device) (seed count : ℕ)
      → ((a : Answer) → IsAnswerToSpec bytes devices (IsVectors seed count) a → ⊥) → ⊥
  some_vectors bytes devices seed count found =
      on_bytes bytes devices (IsVectors seed count) (
      λ spec valid table. some_table laws spec valid table false (IsVectors seed count spec table) (
      λ planned adders circuit made.
      let d = planned.design in
      let ran = some_run spec valid planned.latency d (laws.serve spec valid table false planned adders circuit) seed count in
      let rows = rows_text (input_widths d) (output_widths d) count (stimulus_cells spec seed count) ran.0 in
      made (success (printed.WroteVectors spec.name count) (file (vectors_name spec.name) rows ∷ [])) (record {
        planned = planned;
        adders = adders;
        circuit = circuit;
        rows = rows;
        run = record { outputs = ran.0; run = ran.1; written = refl };
        answer = refl;
      }))) found

  pub some_worked : (n : ℕ) → 1 ≤ n → n ≤ 32 → (devices : List Device) → ((a : Answer) → IsAnswerToWorkload n devices a → ⊥) → ⊥
  some_worked n some few devices found =
      let spec = workload_spec n in
      let valid = workload_valid n some few in
      on_target (first_of_name spec.target devices) spec (λ table a. OnTable spec table a (IsWorked n table a)) (
      λ table. some_table laws spec valid table false (IsWorked n table) (
      λ planned adders circuit made.
      let d = planned.design in
      let ran = some_run spec valid planned.latency d (laws.serve spec valid table false planned adders circuit) n cycles in
      some_count (IsGoodCycle spec (workload_cells n) ran.0 planned.latency) (cycles - planned.latency) (
      λ good counts. made (success (printed.Worked n (length d.signals) planned.latency good) []) (record {
        planned = planned;
        adders = adders;
        circuit = circuit;
        good = good;
        judged = record { outputs = ran.0; run = ran.1; counted = counts };
        answer = refl;
      })))) found
