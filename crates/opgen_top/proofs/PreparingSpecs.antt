-- From what a specification gives to what the command answers to its file.
use Rattle.std.proofs.Common.{◌≡◌, ◌⊎◌, inl, inr, ℕ, ◌≤◌, Bool, false, List, [], ◌∷◌, length, Option, Some, Result, Ok, Err, refl, sym, ap, ◌∙◌, subst, arith}
use Rattle.std.specs.Prelude.{◌≢◌, IsTrue, Vec}
use Rattle.std.specs.declared.alloc.Global.{Global}
use Rattle.opgen_command.specs.declared.command.Command.{Command}
use Rattle.opgen_command.specs.declared.command.Command.TheVariants.{Generate, Vectors}
use Rattle.opgen_design.specs.declared.design.Design.{Design}
use Rattle.opgen_io.specs.Fetched.{fetched}
use Rattle.opgen_io.specs.Files.{Files}
use Rattle.opgen_operator.specs.declared.spec.Spec.{Spec}
use Rattle.opgen_pipe.specs.declared.planning.Planned.{Planned}
use Rattle.opgen_ports.specs.SpecName.{is_spec_name}
use Rattle.opgen_spec.specs.declared.fault.SpecFault.{SpecFault}
use Rattle.opgen_spec.specs.declared.fault.SpecFault.TheVariants as spec_faults
use Rattle.opgen_document.specs.Document.{tree}
use Rattle.opgen_spec.specs.Faults.{read, Gives}
use Rattle.opgen_target.specs.Delays.{Delays}
use Rattle.opgen_top.specs.declared.answer.Answer.{Answer as Held}
use Rattle.opgen_top.specs.declared.answer.Refusal.{Refusal}
use Rattle.opgen_top.specs.declared.answer.Refusal.TheVariants as refusals
use Rattle.opgen_top.specs.declared.circuit.Circuit.{Circuit}
use Rattle.opgen_top.specs.declared.line.Line.TheVariants as printed
use Rattle.opgen_top.specs.Answer.{Answer, file, refusal, status_of, success}
use Rattle.opgen_top.specs.Due.{most_bytes, OnFetch, IsAnswerOf}
use Rattle.opgen_top.specs.Lines.{vectors_name}
use Rattle.opgen_top.specs.Prepared.{Reads, OnAnswer, Fetches, OnRefusal, HasRows, IsCircuitFor, IsListed, IsPrepared, answer_of}
use Rattle.opgen_top.specs.Specified.{wrote, IsAnswerToSpec, IsGenerated, IsVectors, OnReading, OnTable, OnTarget}
use Rattle.opgen_top.specs.Targets.{Device, IsTableOf, first_of_name}
use Rattle.opgen_top.proofs.Listed.{listed_refusal, listed_success}
use Rattle.opgen_top.proofs.Refusing.{answers-map, refusal-map}
use Rattle.opgen_top.proofs.SpecCases.{cases_of_spec, on_reading-map, on_table-map, on_table_of, on_target-map, reading_ok, refusal_answers}
use Rattle.opgen_top.proofs.Unfetched.{on_fetch, on_missing, on_longer, unfetched}

-- what a fault of reading refuses
pub read_gives : (fault : SpecFault) (r : Result Spec SpecFault) → fault ≢ spec_faults.Memory → Gives (Err fault) r → r ≡ Err fault
read_gives spec_faults.Memory r named h = absurd (named refl)
read_gives fault r named h = h

pub fault_refused : (bytes : List ℕ) (fault : SpecFault) → read (tree bytes) ≡ Err fault
    → OnReading (read (tree bytes)) (refusal (printed.Refused fault)) (λ spec. ⊥)
fault_refused bytes fault e = subst (λ r. OnReading r (refusal (printed.Refused fault)) (λ spec. ⊥)) (sym e) refl

pub fault_listed : (fault : SpecFault) → fault ≢ spec_faults.Memory → IsListed (refusal (printed.Refused fault))
fault_listed fault named = listed_refusal (printed.Refused fault) named

-- a refusal by the bytes, by the targets and by the table is one of the specification
pub bytes_refused : (bytes : List ℕ) (devices : List Device) (refusal : Refusal)
    → OnRefusal refusal (λ a. OnReading (read (tree bytes)) a (λ spec. ⊥))
    → OnRefusal refusal (IsAnswerToSpec bytes devices (λ spec table a. ⊥))
bytes_refused bytes devices (refusals.Line line) h =
    on_reading-map (read (tree bytes)) (refusal line) (λ spec. ⊥) _ (λ spec no. absurd no) h
bytes_refused bytes devices refusals.Memory h = tt

module _ (devices : List Device) (spec : Spec) where
  pub target_refused : (refusal : Refusal) → OnRefusal refusal (λ a. OnTarget (first_of_name spec.target devices) spec a (λ table. ⊥))
      → OnRefusal refusal (λ a. OnTarget (first_of_name spec.target devices) spec a (λ table. OnTable spec table a ⊥))
  target_refused (refusals.Line line) h = on_target-map (first_of_name spec.target devices) spec (refusal line) (λ table. ⊥) _
      (λ table no. absurd no) h
  target_refused refusals.Memory h = tt

  pub plan_refused : (table : Delays) → IsTableOf spec devices table → (refusal : Refusal) → OnRefusal refusal (λ a. OnTable spec table a ⊥)
      → OnRefusal refusal (λ a. OnTarget (first_of_name spec.target devices) spec a (λ table. OnTable spec table a ⊥))
  plan_refused table of (refusals.Line line) h =
      on_table_of spec devices (refusal line) (λ t. OnTable spec t (refusal line) ⊥) table of h
  plan_refused table of refusals.Memory h = tt

-- a refusal of a specification answers a command on it
pub refused_answers : (bytes : List ℕ) (devices : List Device) (said : Spec → Delays → Answer → Type 0) (refusal : Refusal)
    → OnRefusal refusal (IsAnswerToSpec bytes devices (λ spec table a. ⊥)) → OnRefusal refusal (IsAnswerToSpec bytes devices said)
refused_answers bytes devices said (refusals.Line line) h = refusal_answers bytes devices said (refusal line) h
refused_answers bytes devices said refusals.Memory h = tt

-- running out of memory says nothing
pub want_says : (refusal : Refusal) (said : Answer → Type 0) → refusal ≡ refusals.Memory → OnRefusal refusal said
want_says (refusals.Line line) said e = absurd (cc)
want_says refusals.Memory said e = tt

-- the lines of success are listed
pub wrote_listed : (a : Answer) (spec : Spec) (planned : Planned) (adders : List ℕ) → IsTrue (is_spec_name spec.name)
    → a ≡ wrote spec planned adders → IsListed a
wrote_listed a spec planned adders allowed e = subst IsListed (sym e) (listed_success (wrote spec planned adders) allowed refl)

pub rows_of_listed : (a : Answer) (spec : Spec) (design : Design) (seed cycles : ℕ) → IsTrue (is_spec_name spec.name)
    → HasRows spec design seed cycles a → IsListed a
rows_of_listed a spec design seed cycles allowed h =
    subst IsListed (sym h.answer)
    (listed_success (success (printed.WroteVectors spec.name cycles) (file (vectors_name spec.name) h.rows ∷ [])) allowed refl)

-- what is said of a specification that was read, and of its circuit, answers the command
module _ (devices : List Device) (spec : Spec) where
  pub read_answers : (bytes : List ℕ) (said : Spec → Delays → Answer → Type 0) → read (tree bytes) ≡ Ok spec → (r : Result Held Refusal)
      → OnAnswer r (λ a. OnTarget (first_of_name spec.target devices) spec a (λ table. OnTable spec table a (said spec table a)))
      → OnAnswer r (IsAnswerToSpec bytes devices said)
  read_answers bytes said reads r h =
      answers-map r _ _
      (λ a k. reading_ok (read (tree bytes)) a
      (λ s. OnTarget (first_of_name s.target devices) s a (λ table. OnTable s table a (said s table a))) spec reads k) h

  pub circuit_refused : (said : Delays → Answer → Type 0) (refusal : Refusal)
      → OnRefusal refusal (λ a. OnTarget (first_of_name spec.target devices) spec a (λ table. OnTable spec table a ⊥))
      → OnRefusal refusal (λ a. OnTarget (first_of_name spec.target devices) spec a (λ table. OnTable spec table a (said table a)))
  circuit_refused said refusal h =
      refusal-map refusal _ _
      (λ a k. on_target-map (first_of_name spec.target devices) spec a _ _ (λ table. on_table-map spec table a ⊥ (said table a) (λ no. absurd no)) k) h

  module _ (enable : Bool) (circuit : Circuit) (is : IsCircuitFor spec enable devices circuit) (r : Result Held Refusal) where
    circuit_answers : (said : Delays → Answer → Type 0) (made : Answer → Type 0) → ((a : Answer) → made a → said is.table a) → OnAnswer r made
        → OnAnswer r (λ a. OnTarget (first_of_name spec.target devices) spec a (λ table. OnTable spec table a (said table a)))
    circuit_answers said made f h =
        answers-map r _ _
        (λ a k. on_table_of spec devices a (λ table. OnTable spec table a (said table a)) is.table is.of_target (inr (inr (f a k)))) h

    pub generated : OnAnswer r (λ a. a ≡ wrote spec circuit.planned circuit.adders.items)
        → OnAnswer r (λ a. OnTarget (first_of_name spec.target devices) spec a (λ table. OnTable spec table a (IsGenerated enable spec table a)))
    generated h = circuit_answers (IsGenerated enable spec) _
        (λ a e. record { planned = circuit.planned; adders = circuit.adders.items; circuit = is.of_table; answer = e }) h

pub vectors_made : (devices : List Device) (spec : Spec) (circuit : Circuit) → IsCircuitFor spec false devices circuit
    → (r : Result Held Refusal) (seed cycles : ℕ) → OnAnswer r (HasRows spec circuit.planned.design seed cycles)
    → OnAnswer r (λ a. OnTarget (first_of_name spec.target devices) spec a (λ table. OnTable spec table a (IsVectors seed cycles spec table a)))
vectors_made devices spec circuit is r seed cycles h =
    circuit_answers devices spec false circuit is r (IsVectors seed cycles spec) _
    (λ a k. record {
      planned = circuit.planned;
      adders = circuit.adders.items;
      circuit = is.of_table;
      rows = k.rows;
      run = k.run;
      answer = k.answer;
    }) h

-- the answer to a specification has status 0 or 1
spec_status : (bytes : List ℕ) (devices : List Device) (said : Spec → Delays → Answer → Type 0) (a : Answer)
    → ((spec : Spec) (table : Delays) → said spec table a → status_of a ≡ 0)
    → IsAnswerToSpec bytes devices said a → (status_of a ≡ 0) ⊎ (status_of a ≡ 1)
spec_status bytes devices said a ok h =
    cases_of_spec bytes devices said a ((status_of a ≡ 0) ⊎ (status_of a ≡ 1))
    (λ fault reads is. inr (ap status_of is))
    (λ spec reads found is. inr (ap status_of is))
    (λ spec device reads found takes is. inr (ap status_of is))
    (λ spec table reads of on. elim on [
      | inl short ↦ inr (ap status_of short.answer)
      | inr (inl large) ↦ inr (ap status_of large.answer)
      | inr (inr made) ↦ inl (ok spec table made)
    ]) h

module _ (command : Command) (said : Spec → Delays → Answer → Type 0) (spec : List ℕ) (devices : List Device) (told : Option Files)
    (before now : Reads)
    (due : (files : Files) (a : Answer) → OnFetch (fetched (files spec) most_bytes) a (λ bytes. IsAnswerToSpec bytes devices said a)
    → IsAnswerOf (Some command) devices files a) where
  spec-unfetched : (refusal : Refusal) → Fetches spec most_bytes told before now (Err refusal)
      → OnAnswer (Err refusal) (IsPrepared (Some command) devices told before now)
  spec-unfetched (refusals.Line line) cause =
      unfetched (Some command) devices told before now spec most_bytes
      (λ files is e. due files _ (on_missing (files spec) most_bytes (λ bytes. IsAnswerToSpec bytes devices said _) e))
      (λ files is e. due files _ (on_longer (files spec) most_bytes (λ bytes. IsAnswerToSpec bytes devices said _) e)) line cause
  spec-unfetched refusals.Memory cause = tt

  module _ (ok : (s : Spec) (table : Delays) (a : Answer) → said s table a → status_of a ≡ 0) (bytes : List ℕ)
      (stands : (files : Files) → told ≡ Some files → files spec ≡ Some bytes) (few : length bytes ≤ most_bytes) where
    answers : (a : Answer) → IsAnswerToSpec bytes devices said a → IsListed a → IsPrepared (Some command) devices told before now a
    answers a is listed =
        let status = spec_status bytes devices said a (λ s table. ok s table a) is in record {
          listed = listed;
          usage = λ other. absurd (elim status [ inl e ↦ omega (arith, e, other) | inr e ↦ omega (arith, e, other) ]);
          read_counted = λ other. absurd (elim status [ inl e ↦ omega (arith, e, other) | inr e ↦ omega (arith, e, other) ]);
          long_counted = λ other. absurd (elim status [ inl e ↦ omega (arith, e, other) | inr e ↦ omega (arith, e, other) ]);
          due = λ files there. inr
              (due files a (on_fetch (files spec) most_bytes bytes a (λ b. IsAnswerToSpec b devices said a) (stands files there) few is));
        }

    spec-prepared : (r : Result Held Refusal) → OnAnswer r (IsAnswerToSpec bytes devices said) → OnAnswer r IsListed
        → OnAnswer r (IsPrepared (Some command) devices told before now)
    spec-prepared (Ok held) is listed = answers (answer_of held) is listed
    spec-prepared (Err (refusals.Line line)) is listed = answers (refusal line) is listed
    spec-prepared (Err refusals.Memory) is listed = tt

module _ (spec : List ℕ) (devices : List Device) (told : Option Files) (before now : Reads) where
  pub generate-unfetched : (workers : ℕ) (enable : Bool) (refusal : Refusal) → Fetches spec most_bytes told before now (Err refusal)
      → OnAnswer (Err refusal) (IsPrepared (Some (Generate spec workers enable)) devices told before now)
  generate-unfetched workers enable = spec-unfetched (Generate spec workers enable) (IsGenerated enable) spec devices told before now
      (λ files a h. h)

  pub vectors-unfetched : (seed cycles : ℕ) (refusal : Refusal) → Fetches spec most_bytes told before now (Err refusal)
      → OnAnswer (Err refusal) (IsPrepared (Some (Vectors spec seed cycles)) devices told before now)
  vectors-unfetched seed cycles = spec-unfetched (Vectors spec seed cycles) (IsVectors seed cycles) spec devices told before now
      (λ files a h. h)

  module _ (document : Vec ℕ Global) (fetched : Fetches spec most_bytes told before now (Ok document)) (bytes : List ℕ)
      (same : bytes ≡ document.items) where
    stands : (files : Files) → told ≡ Some files → files spec ≡ Some bytes
    stands files there = fetched.1 files there ∙ ap Some (sym same)

    few : length bytes ≤ most_bytes
    few = let short = fetched.0 in omega (arith, short, ap length same)

    pub generate-prepared : (workers : ℕ) (enable : Bool) (r : Result Held Refusal)
        → OnAnswer r (IsAnswerToSpec bytes devices (IsGenerated enable)) → OnAnswer r IsListed
        → OnAnswer r (IsPrepared (Some (Generate spec workers enable)) devices told before now)
    generate-prepared workers enable = spec-prepared (Generate spec workers enable) (IsGenerated enable) spec devices told before now
        (λ files a h. h) (λ s table a g. ap status_of g.answer) bytes stands few

    pub vectors-prepared : (seed cycles : ℕ) (r : Result Held Refusal) → OnAnswer r (IsAnswerToSpec bytes devices (IsVectors seed cycles))
        → OnAnswer r IsListed
        → OnAnswer r (IsPrepared (Some (Vectors spec seed cycles)) devices told before now)
    vectors-prepared seed cycles = spec-prepared (Vectors spec seed cycles) (IsVectors seed cycles) spec devices told before now
        (λ files a h. h) (λ s table a g. ap status_of g.answer) bytes stands few

    -- a refusal by the bytes, by the targets or by the table answers both commands
    pub generate-refused : (workers : ℕ) (enable : Bool) (refusal : Refusal)
        → OnRefusal refusal (IsAnswerToSpec bytes devices (λ spec table a. ⊥)) → OnRefusal refusal IsListed
        → OnRefusal refusal (IsPrepared (Some (Generate spec workers enable)) devices told before now)
    generate-refused workers enable refusal h listed =
        generate-prepared workers enable (Err refusal) (refused_answers bytes devices (IsGenerated enable) refusal h) listed

    pub vectors-refused : (seed cycles : ℕ) (refusal : Refusal)
        → OnRefusal refusal (IsAnswerToSpec bytes devices (λ spec table a. ⊥)) → OnRefusal refusal IsListed
        → OnRefusal refusal (IsPrepared (Some (Vectors spec seed cycles)) devices told before now)
    vectors-refused seed cycles refusal h listed =
        vectors-prepared seed cycles (Err refusal) (refused_answers bytes devices (IsVectors seed cycles) refusal h) listed
