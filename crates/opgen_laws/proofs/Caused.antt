-- Each status of a due answer has its cause, and each cause of a refused specification makes its refusal due.
use Rattle.std.proofs.Common.{◌≡◌, ◌≢◌, inl, inr, ℕ, Bool, true, false, cond, List, [], ◌∷◌, length, Option, Some, None, Result, Ok, Err, refl, sym, ap, subst, arith}
use Rattle.std.specs.Prelude.{nat_le}
use Rattle.opgen_command.specs.declared.command.Command.{Command}
use Rattle.opgen_command.specs.declared.command.Command.TheVariants.{Generate, Vectors, Simulate, Workload, Check}
use Rattle.opgen_io.specs.Fetched.{fetched}
use Rattle.opgen_io.specs.Files.{Files}
use Rattle.opgen_io.specs.declared.folder.FetchFault.TheVariants as fetch
use Rattle.opgen_operator.specs.declared.spec.DelayLine.{DelayLine}
use Rattle.opgen_operator.specs.declared.spec.Spec.{Spec}
use Rattle.opgen_document.specs.Document.{tree}
use Rattle.opgen_spec.specs.Faults.{read}
use Rattle.opgen_target.specs.Delays.{Delays}
use Rattle.opgen_workload.specs.Filter.{workload_spec}
use Rattle.opgen_spec.specs.declared.fault.SpecFault.{SpecFault}
use Rattle.opgen_top.specs.declared.line.Line.TheVariants as printed
use Rattle.opgen_top.specs.Answer.{Answer, refusal, status_of}
use Rattle.opgen_laws.specs.Causes.{HasSpec, HasAll, HasTable, IsMade, IsRefusedSpec, IsRefused, IsMissing, IsVhdlRefused, AreVectorsRefused, IsRowBad, IsTooLong, IsRefusedCheck, HasCause, AnswersHaveCauses, SpecsAreRefused, RefusalsAreDue}
use Rattle.opgen_laws.specs.Causes as cause
use Rattle.opgen_top.specs.Check.{IsAnswerToCheck, IsAnswerToVhdl}
use Rattle.opgen_top.specs.Due.{most_bytes, most_simulated_bytes, IsAnswerOf, OnFetch}
use Rattle.opgen_top.specs.Simulate.{IsSimulated}
use Rattle.opgen_top.specs.Specified.{IsAnswerToSpec, IsGenerated, IsVectors, OnLines, OnReading, OnTable, OnTarget}
use Rattle.opgen_top.specs.Targets.{Device, first_of_name, takes_lines, tuned}
use Rattle.opgen_top.specs.Workload.{IsWorked}
use Rattle.opgen_top.proofs.SpecCases.{answers_table, cases_of_spec, cases_of_target, reading_ok}

-- where lines are not taken there is one, and the table is fixed
fixed_table : (adjustable : Bool) (lines : List DelayLine) → takes_lines adjustable lines ≡ false → (adjustable ≡ false) × (lines ≢ [])
fixed_table adjustable [] h = absurd (cc)
fixed_table adjustable (line ∷ lines) h = (h, λ e. cc)

lines_fixed : (adjustable : Bool) (lines : List DelayLine) → adjustable ≡ false → lines ≢ [] → takes_lines adjustable lines ≡ false
lines_fixed adjustable [] h some = absurd (some refl)
lines_fixed adjustable (line ∷ lines) h some = h

module _ (command : Option Command) (devices : List Device) (files : Files) (a : Answer) where
  caused_made : status_of a ≡ 0 → IsMade command devices files a → HasCause command devices files a
  caused_made is cause = record {
    made = λ _. cause;
    refused = λ other. absurd (omega (arith, is, other));
    usage = λ other. absurd (omega (arith, is, other));
    missing = λ other. absurd (omega (arith, is, other));
    vhdl_refused = λ other. absurd (omega (arith, is, other));
    vectors_refused = λ other. absurd (omega (arith, is, other));
    bad_row = λ other. absurd (omega (arith, is, other));
    longer = λ other. absurd (omega (arith, is, other));
  }

  caused_refused : status_of a ≡ 1 → IsRefused command devices files a → HasCause command devices files a
  caused_refused is cause = record {
    made = λ other. absurd (omega (arith, is, other));
    refused = λ _. cause;
    usage = λ other. absurd (omega (arith, is, other));
    missing = λ other. absurd (omega (arith, is, other));
    vhdl_refused = λ other. absurd (omega (arith, is, other));
    vectors_refused = λ other. absurd (omega (arith, is, other));
    bad_row = λ other. absurd (omega (arith, is, other));
    longer = λ other. absurd (omega (arith, is, other));
  }

  caused_usage : status_of a ≡ 2 → command ≡ None → HasCause command devices files a
  caused_usage is cause = record {
    made = λ other. absurd (omega (arith, is, other));
    refused = λ other. absurd (omega (arith, is, other));
    usage = λ _. cause;
    missing = λ other. absurd (omega (arith, is, other));
    vhdl_refused = λ other. absurd (omega (arith, is, other));
    vectors_refused = λ other. absurd (omega (arith, is, other));
    bad_row = λ other. absurd (omega (arith, is, other));
    longer = λ other. absurd (omega (arith, is, other));
  }

  caused_missing : status_of a ≡ 3 → IsMissing command files → HasCause command devices files a
  caused_missing is cause = record {
    made = λ other. absurd (omega (arith, is, other));
    refused = λ other. absurd (omega (arith, is, other));
    usage = λ other. absurd (omega (arith, is, other));
    missing = λ _. cause;
    vhdl_refused = λ other. absurd (omega (arith, is, other));
    vectors_refused = λ other. absurd (omega (arith, is, other));
    bad_row = λ other. absurd (omega (arith, is, other));
    longer = λ other. absurd (omega (arith, is, other));
  }

  caused_vhdl : status_of a ≡ 6 → IsVhdlRefused command files a → HasCause command devices files a
  caused_vhdl is cause = record {
    made = λ other. absurd (omega (arith, is, other));
    refused = λ other. absurd (omega (arith, is, other));
    usage = λ other. absurd (omega (arith, is, other));
    missing = λ other. absurd (omega (arith, is, other));
    vhdl_refused = λ _. cause;
    vectors_refused = λ other. absurd (omega (arith, is, other));
    bad_row = λ other. absurd (omega (arith, is, other));
    longer = λ other. absurd (omega (arith, is, other));
  }

  caused_vectors : status_of a ≡ 7 → AreVectorsRefused command files a → HasCause command devices files a
  caused_vectors is cause = record {
    made = λ other. absurd (omega (arith, is, other));
    refused = λ other. absurd (omega (arith, is, other));
    usage = λ other. absurd (omega (arith, is, other));
    missing = λ other. absurd (omega (arith, is, other));
    vhdl_refused = λ other. absurd (omega (arith, is, other));
    vectors_refused = λ _. cause;
    bad_row = λ other. absurd (omega (arith, is, other));
    longer = λ other. absurd (omega (arith, is, other));
  }

  caused_row : status_of a ≡ 8 → IsRowBad command files a → HasCause command devices files a
  caused_row is cause = record {
    made = λ other. absurd (omega (arith, is, other));
    refused = λ other. absurd (omega (arith, is, other));
    usage = λ other. absurd (omega (arith, is, other));
    missing = λ other. absurd (omega (arith, is, other));
    vhdl_refused = λ other. absurd (omega (arith, is, other));
    vectors_refused = λ other. absurd (omega (arith, is, other));
    bad_row = λ _. cause;
    longer = λ other. absurd (omega (arith, is, other));
  }

  caused_longer : status_of a ≡ 9 → IsTooLong command files → HasCause command devices files a
  caused_longer is cause = record {
    made = λ other. absurd (omega (arith, is, other));
    refused = λ other. absurd (omega (arith, is, other));
    usage = λ other. absurd (omega (arith, is, other));
    missing = λ other. absurd (omega (arith, is, other));
    vhdl_refused = λ other. absurd (omega (arith, is, other));
    vectors_refused = λ other. absurd (omega (arith, is, other));
    bad_row = λ other. absurd (omega (arith, is, other));
    longer = λ _. cause;
  }

  -- by what fetching a file gives
  on_under : (under : Option (List ℕ)) (most : ℕ) (said : List ℕ → Type 0) → (under ≡ None → IsMissing command files)
      → (fetched under most ≡ Err fetch.TooLong → IsTooLong command files)
      → ((bytes : List ℕ) → under ≡ Some bytes → said bytes → HasCause command devices files a)
      → OnFetch (fetched under most) a said → HasCause command devices files a
  on_under None most said missing longer whole h = caused_missing (ap status_of h) (missing refl)
  on_under (Some bytes) most said missing longer whole h = go (nat_le (length bytes) most) refl h
    where
      go : (fits : Bool) → nat_le (length bytes) most ≡ fits → OnFetch (cond fits (Ok bytes) (Err fetch.TooLong)) a said
          → HasCause command devices files a
      go true e is = whole bytes refl is
      go false e is = caused_longer (ap status_of is) (longer (ap (λ b. cond b (Ok bytes) (Err fetch.TooLong)) e))

  -- by what the bytes of a specification and the targets give
  on_spec : (file bytes : List ℕ) (said : Spec → Delays → Answer → Type 0) → files file ≡ Some bytes
      → (IsRefusedSpec file devices files a → IsRefused command devices files a)
      → ((spec : Spec) (table : Delays) → said spec table a → status_of a ≡ 0)
      → (HasTable file devices files (λ s table. said s table a) → IsMade command devices files a)
      → IsAnswerToSpec bytes devices said a → HasCause command devices files a
  on_spec file bytes said stands refusing ok making h =
      let has : (spec : Spec) → read (tree bytes) ≡ Ok spec → HasSpec file files spec =
      λ spec reads. record { bytes = bytes; stands = stands; reads = reads } in
      cases_of_spec bytes devices said a (HasCause command devices files a)
      (λ fault reads is. caused_refused (ap status_of is) (refusing (cause.faulty
      (record { bytes = bytes; stands = stands; fault = fault; reads = reads; answer = is }))))
      (λ spec reads found is. caused_refused (ap status_of is) (refusing (cause.no_target spec (has spec reads) found is)))
      (λ spec device reads found takes is.
      let fixed = fixed_table device.adjustable spec.delays takes in
      caused_refused (ap status_of is) (refusing (cause.fixed_table spec device (has spec reads) found fixed.0 fixed.1 is)))
      (λ spec table reads of on. elim on [
        | inl short ↦ caused_refused (ap status_of short.answer)
            (refusing (cause.short_period record { spec = spec; has_spec = has spec reads; table = table; of_target = of; says = short }))
        | inr (inl large) ↦ caused_refused (ap status_of large.answer)
            (refusing (cause.many_signals record { spec = spec; has_spec = has spec reads; table = table; of_target = of; says = large }))
        | inr (inr made) ↦ caused_made (ok spec table made)
            (making record { spec = spec; has_spec = has spec reads; table = table; of_target = of; says = made })
      ]) h

-- by what reading a specification gives
module _ (spec vhdl vectors : List ℕ) (latency : ℕ) (devices : List Device) (files : Files) (a : Answer) (bytes text rows : List ℕ)
    (stands : files spec ≡ Some bytes) (both : files vhdl ≡ Some text) (also : files vectors ≡ Some rows) where
  abbrev command : Option Command
  command = Some (Check spec vhdl vectors latency)

  -- all three files hold bytes, of which something is said
  all : (s : Spec) → read (tree bytes) ≡ Ok s → (said : Spec → (text rows : List ℕ) → Type 0) → said s text rows
      → HasAll spec vhdl vectors files said
  all s reads said h = record {
    spec = s;
    has_spec = record { bytes = bytes; stands = stands; reads = reads };
    both = record { text = text; stands = both; rows = rows; also_stands = also; says = h };
  }

  check_caused : (r : Result Spec SpecFault) → read (tree bytes) ≡ r → OnReading r a (λ s. IsAnswerToVhdl s latency text rows a)
      → HasCause command devices files a
  check_caused (Err fault) reads is =
      caused_refused command devices files a (ap status_of is)
      (record { bytes = bytes; stands = stands; fault = fault; reads = reads; answer = is })
  check_caused (Ok s) reads is = elim is [
    | inl refused ↦ caused_vhdl command devices files a (ap status_of refused.answer) (all s reads _ (inl refused))
    | inr (inl refused) ↦ caused_vectors command devices files a (ap status_of refused.refused.answer) (all s reads _ refused)
    | inr (inr (inl ports)) ↦ caused_vhdl command devices files a (ap status_of ports.answer) (all s reads _ (inr ports))
    | inr (inr (inr (inl bad))) ↦ caused_row command devices files a (ap status_of bad.answer) (all s reads _ bad)
    | inr (inr (inr (inr good))) ↦ caused_made command devices files a (ap status_of good.answer) (all s reads _ good)
  ]

pub answers_have_causes : AnswersHaveCauses
answers_have_causes None devices files a h = caused_usage None devices files a (ap status_of h) refl
answers_have_causes (Some (Generate spec workers enable)) devices files a h =
    let command = Some (Generate spec workers enable) in
    on_under command devices files a (files spec) most_bytes (λ bytes. IsAnswerToSpec bytes devices (IsGenerated enable) a) (λ e. e)
    (λ e. e)
    (λ bytes stands. on_spec command devices files a spec bytes (IsGenerated enable) stands (λ r. r) (λ s table g. ap status_of g.answer)
    (λ m. m)) h
answers_have_causes (Some (Vectors spec seed cycles)) devices files a h =
    let command = Some (Vectors spec seed cycles) in
    on_under command devices files a (files spec) most_bytes (λ bytes. IsAnswerToSpec bytes devices (IsVectors seed cycles) a) (λ e. e)
    (λ e. e)
    (λ bytes stands. on_spec command devices files a spec bytes (IsVectors seed cycles) stands (λ r. r)
    (λ s table g. ap status_of g.answer) (λ m. m)) h
answers_have_causes (Some (Simulate vhdl vectors out)) devices files a h =
    let command = Some (Simulate vhdl vectors out) in
    on_under command devices files a (files vhdl) most_simulated_bytes
    (λ text. OnFetch (fetched (files vectors) most_simulated_bytes) a (λ rows. IsSimulated out text rows a)) inl inl
    (λ text stands. on_under command devices files a (files vectors) most_simulated_bytes (λ rows. IsSimulated out text rows a) inr inr
    (λ rows also is. elim is [
      | inl because ↦ caused_vhdl command devices files a (ap status_of because.answer) record {
        text = text;
        stands = stands;
        refused = because;
      }
      | inr (inl because) ↦ caused_vectors command devices files a (ap status_of because.refused.answer)
          record { text = text; stands = stands; rows = rows; also_stands = also; says = because }
      | inr (inr runs) ↦ caused_made command devices files a (ap status_of runs.answer) record {
        text = text;
        stands = stands;
        rows = rows;
        also_stands = also;
        says = runs;
      }
    ])) h
answers_have_causes (Some (Workload n)) devices files a h =
    let command = Some (Workload n) in
    let spec = workload_spec n in
    cases_of_target devices spec a (λ table. OnTable spec table a (IsWorked n table a)) (HasCause command devices files a)
    (λ found is. caused_refused command devices files a (ap status_of is) (cause.filter_without_target found is))
    (λ device found takes is. let no_lines : true ≡ false = takes in cc)
    (λ table of on. elim on [
      | inl short ↦ caused_refused command devices files a (ap status_of short.answer)
          (cause.filter_of_long_need record { table = table; of_target = of; says = short })
      | inr (inl large) ↦ caused_refused command devices files a (ap status_of large.answer)
          (cause.filter_of_many_signals record { table = table; of_target = of; says = large })
      | inr (inr made) ↦ caused_made command devices files a (ap status_of made.answer) record {
        table = table;
        of_target = of;
        says = made;
      }
    ]) h
answers_have_causes (Some (Check spec vhdl vectors latency)) devices files a h =
    let command = Some (Check spec vhdl vectors latency) in
    on_under command devices files a (files spec) most_bytes
    (λ bytes. OnFetch (fetched (files vhdl) most_simulated_bytes) a (λ text. OnFetch (fetched (files vectors) most_simulated_bytes) a
    (λ rows. IsAnswerToCheck latency bytes text rows a))) inl inl
    (λ bytes stands. on_under command devices files a (files vhdl) most_simulated_bytes
    (λ text. OnFetch (fetched (files vectors) most_simulated_bytes) a (λ rows. IsAnswerToCheck latency bytes text rows a))
    (λ e. inr (inl e)) (λ e. inr (inl e))
    (λ text both. on_under command devices files a (files vectors) most_simulated_bytes (λ rows. IsAnswerToCheck latency bytes text rows a)
    (λ e. inr (inr e)) (λ e. inr (inr e))
    (λ rows also. check_caused spec vhdl vectors latency devices files a bytes text rows stands both also (read (tree bytes)) refl))) h

-- each cause for which a specification is refused makes that refusal an answer to it
module _ (bytes : List ℕ) (devices : List Device) (said : Spec → Delays → Answer → Type 0) (a : Answer) where
  abbrev Said : Spec → Type 0
  Said spec = OnTarget (first_of_name spec.target devices) spec a (λ table. OnTable spec table a (said spec table a))

  answers_fault : (fault : SpecFault) → read (tree bytes) ≡ Err fault → a ≡ refusal (printed.Refused fault)
      → IsAnswerToSpec bytes devices said a
  answers_fault fault reads is = subst (λ r. OnReading r a Said) (sym reads) is

  answers_unknown : (spec : Spec) → read (tree bytes) ≡ Ok spec → first_of_name spec.target devices ≡ None
      → a ≡ refusal printed.UnknownTarget → IsAnswerToSpec bytes devices said a
  answers_unknown spec reads found is =
      reading_ok (read (tree bytes)) a Said spec reads
      (subst (λ d. OnTarget d spec a (λ table. OnTable spec table a (said spec table a))) (sym found) is)

  answers_fixed : (spec : Spec) (device : Device) → read (tree bytes) ≡ Ok spec → first_of_name spec.target devices ≡ Some device
      → takes_lines device.adjustable spec.delays ≡ false → a ≡ refusal printed.NotAdjustable → IsAnswerToSpec bytes devices said a
  answers_fixed spec device reads found takes is =
      let table = tuned device.delays spec.delays in
      reading_ok (read (tree bytes)) a Said spec reads
      (subst (λ d. OnTarget d spec a (λ t. OnTable spec t a (said spec t a))) (sym found)
      (subst (λ b. OnLines b a (OnTable spec table a (said spec table a))) (sym takes) is))

-- a file that is not too long is fetched whole
on_whole : (under : Option (List ℕ)) (bytes : List ℕ) (most : ℕ) (a : Answer) (said : List ℕ → Type 0) → under ≡ Some bytes
    → (fetched under most ≡ Err fetch.TooLong → ⊥) → said bytes
    → OnFetch (fetched under most) a said
on_whole None bytes most a said e short h = absurd (cc)
on_whole (Some held) bytes most a said e short h = go (nat_le (length held) most) refl
  where
    go : (fits : Bool) → nat_le (length held) most ≡ fits → OnFetch (cond fits (Ok held) (Err fetch.TooLong)) a said
    go true is = let same : held ≡ bytes = cc in subst said (sym same) h
    go false is = absurd (short (ap (λ b. cond b (Ok held) (Err fetch.TooLong)) is))

module _ (said : Spec → Delays → Answer → Type 0) (file : List ℕ) (devices : List Device) (files : Files) (a : Answer)
    (short : fetched (files file) most_bytes ≡ Err fetch.TooLong → ⊥) where
  whole : (bytes : List ℕ) → files file ≡ Some bytes → IsAnswerToSpec bytes devices said a
      → OnFetch (fetched (files file) most_bytes) a (λ bytes. IsAnswerToSpec bytes devices said a)
  whole bytes stands h = on_whole (files file) bytes most_bytes a (λ bytes. IsAnswerToSpec bytes devices said a) stands short h

  refusal_due : IsRefusedSpec file devices files a → OnFetch (fetched (files file) most_bytes) a
      (λ bytes. IsAnswerToSpec bytes devices said a)
  refusal_due (cause.faulty h) = whole h.bytes h.stands (answers_fault h.bytes devices said a h.fault h.reads h.answer)
  refusal_due (cause.no_target spec has found is) =
      whole has.bytes has.stands (answers_unknown has.bytes devices said a spec has.reads found is)
  refusal_due (cause.fixed_table spec device has found fixed some is) =
      whole has.bytes has.stands (answers_fixed has.bytes devices said a spec device has.reads found
      (lines_fixed device.adjustable spec.delays fixed some) is)
  refusal_due (cause.short_period h) =
      let has = h.has_spec in
      whole has.bytes has.stands (answers_table has.bytes devices said a h.spec h.table has.reads h.of_target (inl h.says))
  refusal_due (cause.many_signals h) =
      let has = h.has_spec in
      whole has.bytes has.stands (answers_table has.bytes devices said a h.spec h.table has.reads h.of_target (inr (inl h.says)))

specs_are_refused : SpecsAreRefused
specs_are_refused (Generate spec workers enable) file on devices files a short refused =
    subst (λ name. OnFetch (fetched (files name) most_bytes) a (λ bytes. IsAnswerToSpec bytes devices (IsGenerated enable) a)) (sym on)
    (refusal_due (IsGenerated enable) file devices files a short refused)
specs_are_refused (Vectors spec seed cycles) file on devices files a short refused =
    subst (λ name. OnFetch (fetched (files name) most_bytes) a (λ bytes. IsAnswerToSpec bytes devices (IsVectors seed cycles) a)) (sym on)
    (refusal_due (IsVectors seed cycles) file devices files a short refused)
specs_are_refused (Simulate vhdl vectors out) file on devices files a short refused = absurd on
specs_are_refused (Workload n) file on devices files a short refused = absurd on
specs_are_refused (Check spec vhdl vectors latency) file on devices files a short refused = absurd on

-- the files of `check`, which are not too long
module _ (spec vhdl vectors : List ℕ) (latency : ℕ) (devices : List Device) (files : Files) (a : Answer)
    (short : IsTooLong (Some (Check spec vhdl vectors latency)) files → ⊥) where
  all_whole : (bytes text rows : List ℕ) → files spec ≡ Some bytes → files vhdl ≡ Some text → files vectors ≡ Some rows
      → IsAnswerToCheck latency bytes text rows a → IsAnswerOf (Some (Check spec vhdl vectors latency)) devices files a
  all_whole bytes text rows is also too h =
      on_whole (files spec) bytes most_bytes a
      (λ b. OnFetch (fetched (files vhdl) most_simulated_bytes) a (λ t. OnFetch (fetched (files vectors) most_simulated_bytes) a
      (λ r. IsAnswerToCheck latency b t r a))) is (λ e. short (inl e))
      (on_whole (files vhdl) text most_simulated_bytes a
      (λ t. OnFetch (fetched (files vectors) most_simulated_bytes) a (λ r. IsAnswerToCheck latency bytes t r a)) also
      (λ e. short (inr (inl e)))
      (on_whole (files vectors) rows most_simulated_bytes a (λ r. IsAnswerToCheck latency bytes text r a) too
      (λ e. short (inr (inr e))) h))

  all_standing : (said : Spec → (text rows : List ℕ) → Type 0) → ((s : Spec) (text rows : List ℕ) → said s text rows
      → IsAnswerToVhdl s latency text rows a) → HasAll spec vhdl vectors files said
      → IsAnswerOf (Some (Check spec vhdl vectors latency)) devices files a
  all_standing said answers all =
      let has = all.has_spec in
      let both = all.both in
      all_whole has.bytes both.text both.rows has.stands both.stands both.also_stands
      (reading_ok (read (tree has.bytes)) a (λ s. IsAnswerToVhdl s latency both.text both.rows a) all.spec has.reads
      (answers all.spec both.text both.rows both.says))

  check_due : IsRefusedCheck spec vhdl vectors latency files a → IsAnswerOf (Some (Check spec vhdl vectors latency)) devices files a
  check_due (cause.faulty_spec h both) =
      all_whole h.bytes both.text both.rows h.stands both.stands both.also_stands
      (subst (λ r. OnReading r a (λ s. IsAnswerToVhdl s latency both.text both.rows a)) (sym h.reads) h.answer)
  check_due (cause.faulty_vhdl all) = all_standing _ (λ s text rows h. inl h) all
  check_due (cause.faulty_vectors all) = all_standing _ (λ s text rows h. inr (inl h)) all
  check_due (cause.other_ports all) = all_standing _ (λ s text rows h. inr (inr (inl h))) all
  check_due (cause.bad_row all) = all_standing _ (λ s text rows h. inr (inr (inr (inl h)))) all

pub refusals_are_due : RefusalsAreDue
refusals_are_due = record { of_specs = specs_are_refused; of_checks = check_due }
