-- The words, the targets and the files leave at most one answer.
use Rattle.std.proofs.Common.{◌≤◌, ◌≡◌, inl, inr, ℕ, ◌-◌, Bool, true, false, List, [], ◌∷◌, length, Option, Some, None, IfSome, Result, Ok, Err, refl, sym, ap, ◌∙◌, subst, arith}
use Rattle.opgen_command.specs.Command.{HasRanges, command_of}
use Rattle.opgen_command.specs.declared.command.Command.{Command}
use Rattle.opgen_command.specs.declared.command.Command.TheVariants.{Generate, Vectors, Simulate, Workload, Check}
use Rattle.opgen_io.specs.Fetched.{fetched}
use Rattle.opgen_io.specs.Files.{Files}
use Rattle.opgen_design.specs.Sound.{IsSound}
use Rattle.opgen_io.specs.declared.folder.FetchFault.{FetchFault}
use Rattle.opgen_io.specs.declared.folder.FetchFault.TheVariants as fetch
use Rattle.opgen_operator.specs.declared.spec.Spec.{Spec}
use Rattle.opgen_operator.specs.Valid.{IsValidSpec}
use Rattle.opgen_pipe.specs.declared.planning.Planned.{Planned}
use Rattle.opgen_pipe.specs.Cells.{need}
use Rattle.opgen_spec.specs.declared.fault.SpecFault.{SpecFault}
use Rattle.opgen_document.specs.Document.{tree}
use Rattle.opgen_spec.specs.Faults.{read}
use Rattle.opgen_spec.proofs.Validity.{valid_read}
use Rattle.opgen_target.specs.Delays.{Delays}
use Rattle.opgen_vec.specs.Stimulus.{stimulus_cells}
use Rattle.opgen_workload.specs.Filter.{workload_spec}
use Rattle.opgen_workload.specs.Judged.{Counts, IsGoodCycle}
use Rattle.opgen_workload.proofs.Counting.{one_count}
use Rattle.opgen_workload.proofs.Valid.{workload_valid}
use Rattle.opgen_top.specs.declared.line.Line.TheVariants as printed
use Rattle.opgen_top.specs.Answer.{Answer, file, refusal, success}
use Rattle.opgen_top.specs.Circuit.{IsCircuit, need_of, signals_of}
use Rattle.opgen_top.specs.Check.{IsAnswerToCheck, IsAnswerToVhdl}
use Rattle.opgen_top.specs.Due.{IsAnswerOf, most_bytes, most_simulated_bytes, OnFetch}
use Rattle.opgen_top.specs.Lines.{vectors_name}
use Rattle.opgen_top.specs.Running.{IsRunText}
use Rattle.opgen_top.specs.Simulate.{IsSimulated}
use Rattle.opgen_top.specs.Specified.{wrote, IsAnswerToSpec, IsGenerated, IsVectors, IsTooShort, IsTooLarge, OnLines, OnReading, OnTable, OnTarget}
use Rattle.opgen_top.specs.Targets.{Device, first_of_name, takes_lines, tuned}
use Rattle.opgen_top.specs.Workload.{IsWorked, RunsGood, workload_cells}
use Rattle.opgen_top.specs.Workload.{cycles as workload_cycles}
use Rattle.opgen_laws.proofs.ByKind.{OneOfEach}
use Rattle.opgen_laws.proofs.CommandRanges.{ranges}
use Rattle.opgen_laws.proofs.OneCircuit.{one_circuit, one_net, one_net_for}
use Rattle.opgen_runs.proofs.Rows.{one_outputs}
use Rattle.opgen_laws.proofs.OneChecked.{one_to_vhdl}
use Rattle.opgen_laws.proofs.OneSimulated.{one_text, one_simulated}
use Rattle.opgen_top.proofs.Planning.{circuit_sound}
use Rattle.opgen_laws.specs.Answers.{HasOneAnswer}

-- what is said of the bytes leaves one answer
one_on_fetch : (r : Result (List ℕ) FetchFault) (a b : Answer) (said other : List ℕ → Type 0)
    → ((bytes : List ℕ) → said bytes → other bytes → a ≡ b) → OnFetch r a said → OnFetch r b other → a ≡ b
one_on_fetch (Ok bytes) a b said other one h k = one bytes h k
one_on_fetch (Err fetch.Failed) a b said other one h k = h ∙ sym k
one_on_fetch (Err fetch.TooLong) a b said other one h k = h ∙ sym k
one_on_fetch (Err fetch.Memory) a b said other one h k = h ∙ sym k

one_on_reading : (r : Result Spec SpecFault) (a b : Answer) (said other : Spec → Type 0)
    → ((spec : Spec) → r ≡ Ok spec → said spec → other spec → a ≡ b) → OnReading r a said → OnReading r b other → a ≡ b
one_on_reading (Ok spec) a b said other one h k = one spec refl h k
one_on_reading (Err fault) a b said other one h k = h ∙ sym k

one_on_lines : (takes : Bool) (a b : Answer) (said other : Type 0) → (said → other → a ≡ b) → OnLines takes a said
    → OnLines takes b other → a ≡ b
one_on_lines true a b said other one h k = one h k
one_on_lines false a b said other one h k = h ∙ sym k

one_on_target : (found : Option Device) (spec : Spec) (a b : Answer) (said other : Delays → Type 0)
    → ((table : Delays) → said table → other table → a ≡ b)
    → OnTarget found spec a said → OnTarget found spec b other → a ≡ b
one_on_target (Some device) spec a b said other one h k =
    let table = tuned device.delays spec.delays in
    one_on_lines (takes_lines device.adjustable spec.delays) a b (said table) (other table) (one table) h k
one_on_target None spec a b said other one h k = h ∙ sym k

-- there is a circuit
abbrev Has : Spec → Delays → Type 0
Has spec table = (enable : Bool) × (planned : Planned) × (adders : List ℕ) × IsCircuit spec table enable planned adders

-- the period, the number of signals and the circuit decide one after the other
module _ (each : OneOfEach) (spec : Spec) (table : Delays) where
  one_short : (a b : Answer) → IsTooShort spec table a → IsTooShort spec table b → a ≡ b
  one_short a b h k =
      h.answer
      ∙ ap (λ n. refusal (printed.PeriodTooShort (need_of spec table n)))
      (one_net each spec h.of_spec.own k.of_spec.own h.of_spec.is_own k.of_spec.is_own)
      ∙ sym k.answer

  not_short_large : (a b : Answer) → IsTooShort spec table a → IsTooLarge spec table b → ⊥
  not_short_large a b h k =
      let same = ap (need table) (one_net_for each spec table h.net k.net h.of_spec k.of_spec) in
      let short = h.short in
      let long = k.long_enough in omega (arith, same, short, long)

  not_short_circuit : (a : Answer) → IsTooShort spec table a → Has spec table → ⊥
  not_short_circuit a h (enable, planned, adders, c) =
      let same = ap (need table) (one_net_for each spec table h.net c.net h.of_spec c.of_spec) in
      let short = h.short in
      let long = c.long_enough in omega (arith, same, short, long)

  not_large_circuit : (a : Answer) → IsTooLarge spec table a → Has spec table → ⊥
  not_large_circuit a h (enable, planned, adders, c) =
      let same = ap (signals_of spec table) (one_net_for each spec table h.net c.net h.of_spec c.of_spec) in
      let many = h.many_signals in
      let few = c.few_signals in omega (arith, same, many, few)

  one_on_table : (a b : Answer) (said other : Type 0) → (said → Has spec table) → (other → Has spec table) → (said → other → a ≡ b)
      → OnTable spec table a said → OnTable spec table b other → a ≡ b
  one_on_table a b said other has also one (inl h) (inl k) = one_short a b h k
  one_on_table a b said other has also one (inl h) (inr (inl k)) = absurd (not_short_large a b h k)
  one_on_table a b said other has also one (inl h) (inr (inr k)) = absurd (not_short_circuit a h (also k))
  one_on_table a b said other has also one (inr (inl h)) (inl k) = absurd (not_short_large b a k h)
  one_on_table a b said other has also one (inr (inl h)) (inr (inl k)) = h.answer ∙ sym k.answer
  one_on_table a b said other has also one (inr (inl h)) (inr (inr k)) = absurd (not_large_circuit a h (also k))
  one_on_table a b said other has also one (inr (inr h)) (inl k) = absurd (not_short_circuit b k (has h))
  one_on_table a b said other has also one (inr (inr h)) (inr (inl k)) = absurd (not_large_circuit b k (has h))
  one_on_table a b said other has also one (inr (inr h)) (inr (inr k)) = one h k

  one_generated : (enable : Bool) (a b : Answer) → IsGenerated enable spec table a → IsGenerated enable spec table b → a ≡ b
  one_generated enable a b h k =
      let (plan, adders) = one_circuit each spec table enable h.planned k.planned h.adders k.adders h.circuit k.circuit in
      h.answer
      ∙ ap (λ p. wrote spec p h.adders) plan
      ∙ ap (wrote spec k.planned) adders
      ∙ sym k.answer

  one_vectors : IsValidSpec spec → (seed cycles : ℕ) (a b : Answer) → IsVectors seed cycles spec table a → IsVectors seed cycles spec table b → a ≡ b
  one_vectors valid seed cycles a b h k =
      let cells = stimulus_cells spec seed cycles in
      let (plan, adders) = one_circuit each spec table false h.planned k.planned h.adders k.adders h.circuit k.circuit in
      let run = subst (λ (p : Planned). IsRunText p.design cycles cells h.rows) plan h.run in
      let sound = circuit_sound spec valid table false k.planned k.adders k.circuit in
      h.answer
      ∙ ap (λ rows. success (printed.WroteVectors spec.name cycles) (file (vectors_name spec.name) rows ∷ []))
      (one_text k.planned.design sound cycles cells h.rows k.rows run k.run)
      ∙ sym k.answer

-- one number of good cycles
one_judged : (n : ℕ) (p q : Planned) (g h : ℕ) → IsSound q.design → p ≡ q → RunsGood n p.design p.latency g
    → RunsGood n q.design q.latency h → g ≡ h
one_judged n p q g h sound same a b =
    let moved : RunsGood n q.design q.latency g = subst (λ (x : Planned). RunsGood n x.design x.latency g) same a in
    let cells = workload_cells n in
    let outputs = one_outputs q.design sound workload_cycles cells moved.outputs b.outputs moved.run b.run in
    one_count (IsGoodCycle (workload_spec n) cells b.outputs q.latency) (workload_cycles - q.latency) g h
    (subst (λ os. Counts (IsGoodCycle (workload_spec n) cells os q.latency)
    (workload_cycles - q.latency) g) outputs moved.counted) b.counted

one_worked : OneOfEach → (n : ℕ) → 1 ≤ n → n ≤ 32 → (table : Delays) (a b : Answer) → IsWorked n table a → IsWorked n table b → a ≡ b
one_worked each n some few table a b h k =
    let same = (one_circuit each (workload_spec n) table false h.planned k.planned h.adders k.adders h.circuit k.circuit).0 in
    let sound = circuit_sound (workload_spec n) (workload_valid n some few) table false k.planned k.adders k.circuit in
    h.answer
    ∙ ap (λ (p : Planned). success (printed.Worked n (length p.design.signals) p.latency h.good) []) same
    ∙ ap (λ good. success (printed.Worked n (length k.planned.design.signals) k.planned.latency good) [])
    (one_judged n h.planned k.planned h.good k.good sound same h.judged k.judged)
    ∙ sym k.answer

one_of_spec : OneOfEach → (said : Spec → Delays → Answer → Type 0)
    → ((spec : Spec) (table : Delays) (a : Answer) → said spec table a → Has spec table)
    → ((spec : Spec) → IsValidSpec spec → (table : Delays) (a b : Answer) → said spec table a → said spec table b → a ≡ b)
    → (devices : List Device) (under : Option (List ℕ)) (a b : Answer)
    → OnFetch (fetched under most_bytes) a (λ bytes. IsAnswerToSpec bytes devices said a)
    → OnFetch (fetched under most_bytes) b (λ bytes. IsAnswerToSpec bytes devices said b) → a ≡ b
one_of_spec each said has one devices under a b h k =
    one_on_fetch (fetched under most_bytes) a b (λ bytes. IsAnswerToSpec bytes devices said a)
    (λ bytes. IsAnswerToSpec bytes devices said b)
    (λ bytes. one_on_reading (read (tree bytes)) a b _ _
    (λ spec reads. one_on_target (first_of_name spec.target devices) spec a b _ _
    (λ table. one_on_table each spec table a b (said spec table a) (said spec table b) (has spec table a) (has spec table b)
    (one spec (valid_read (tree bytes) spec reads) table a b)))) h k

one_of_command : OneOfEach → (o : Option Command) → IfSome o HasRanges → (devices : List Device) (files : Files) (a b : Answer)
    → IsAnswerOf o devices files a → IsAnswerOf o devices files b → a ≡ b
one_of_command each None held devices files a b h k = h ∙ sym k
one_of_command each (Some (Generate spec workers enable)) held devices files a b h k =
    one_of_spec each (IsGenerated enable) (λ s table a g. (enable, g.planned, g.adders, g.circuit))
    (λ s valid table. one_generated each s table enable) devices (files spec) a b h k
one_of_command each (Some (Vectors spec seed cycles)) held devices files a b h k =
    one_of_spec each (IsVectors seed cycles) (λ s table a g. (false, g.planned, g.adders, g.circuit))
    (λ s valid table. one_vectors each s table valid seed cycles) devices (files spec) a b h k
one_of_command each (Some (Workload n)) held devices files a b h k =
    let spec = workload_spec n in
    one_on_target (first_of_name spec.target devices) spec a b _ _
    (λ table. one_on_table each spec table a b (IsWorked n table a) (IsWorked n table b) (λ g. (false, g.planned, g.adders, g.circuit))
    (λ g. (false, g.planned, g.adders, g.circuit))
    (one_worked each n held.0 held.1 table a b)) h k
one_of_command each (Some (Simulate vhdl vectors out)) held devices files a b h k =
    let rows = fetched (files vectors) most_simulated_bytes in
    one_on_fetch (fetched (files vhdl) most_simulated_bytes) a b (λ text. OnFetch rows a (λ given. IsSimulated out text given a))
    (λ text. OnFetch rows b (λ given. IsSimulated out text given b))
    (λ text. one_on_fetch rows a b (λ given. IsSimulated out text given a) (λ given. IsSimulated out text given b)
    (λ given. one_simulated out text given a b)) h k
one_of_command each (Some (Check spec vhdl vectors latency)) held devices files a b h k =
    let rows = fetched (files vectors) most_simulated_bytes in
    let text = fetched (files vhdl) most_simulated_bytes in
    one_on_fetch (fetched (files spec) most_bytes) a b
    (λ s. OnFetch text a (λ t. OnFetch rows a (λ r. IsAnswerToCheck latency s t r a)))
    (λ s. OnFetch text b (λ t. OnFetch rows b (λ r. IsAnswerToCheck latency s t r b)))
    (λ s. one_on_fetch text a b (λ t. OnFetch rows a (λ r. IsAnswerToCheck latency s t r a))
    (λ t. OnFetch rows b (λ r. IsAnswerToCheck latency s t r b))
    (λ t. one_on_fetch rows a b (λ r. IsAnswerToCheck latency s t r a) (λ r. IsAnswerToCheck latency s t r b)
    (λ r. one_on_reading (read (tree s)) a b (λ m. IsAnswerToVhdl m latency t r a) (λ m. IsAnswerToVhdl m latency t r b)
    (λ m reads. one_to_vhdl m latency t r a b)))) h k

pub one_answer : OneOfEach → HasOneAnswer
one_answer each words devices files a b h k = one_of_command each (command_of words) (ranges words) devices files a b h k
