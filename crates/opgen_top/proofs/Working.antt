-- From what a number gives to what `workload` answers.
use Rattle.std.proofs.Common.{◌≡◌, ◌⊎◌, inl, inr, ℕ, false, List, [], length, Option, Some, Result, Ok, Err, refl, sym, ap, subst, arith}
use Rattle.opgen_command.specs.declared.command.Command.TheVariants.{Workload}
use Rattle.opgen_io.specs.Files.{Files}
use Rattle.opgen_operator.specs.declared.spec.Spec.{Spec}
use Rattle.opgen_pipe.specs.declared.planning.Planned.{Planned}
use Rattle.opgen_workload.specs.Filter.{workload_spec}
use Rattle.opgen_top.specs.declared.answer.Answer.{Answer as Held}
use Rattle.opgen_top.specs.declared.answer.Refusal.{Refusal}
use Rattle.opgen_top.specs.declared.answer.Refusal.TheVariants as refusals
use Rattle.opgen_top.specs.declared.circuit.Circuit.{Circuit}
use Rattle.opgen_top.specs.declared.line.Line.TheVariants as printed
use Rattle.opgen_top.specs.Answer.{Answer, refusal, status_of, success}
use Rattle.opgen_top.specs.Prepared.{Reads, OnAnswer, HasWorked, IsCircuitFor, IsListed, IsPrepared, OnRefusal, answer_of}
use Rattle.opgen_top.specs.Specified.{OnTable, OnTarget}
use Rattle.opgen_top.specs.Targets.{Device, first_of_name}
use Rattle.opgen_top.specs.Workload.{IsAnswerToWorkload, IsWorked}
use Rattle.opgen_top.proofs.Listed.{listed_success}
use Rattle.opgen_top.proofs.SpecCases.{cases_of_target, on_table-map, on_table_of, on_target-map}

module _ (n : ℕ) (devices : List Device) where
  -- a refusal of the filter answers the number
  filter_refused : (refusal : Refusal)
      → OnRefusal refusal (λ a. OnTarget (first_of_name (workload_spec n).target devices) (workload_spec n) a
      (λ table. OnTable (workload_spec n) table a ⊥))
      → OnRefusal refusal (IsAnswerToWorkload n devices)
  filter_refused (refusals.Line line) h =
      let spec = workload_spec n in
      on_target-map (first_of_name spec.target devices) spec (refusal line) _ _
      (λ table. on_table-map spec table (refusal line) ⊥ (IsWorked n table (refusal line)) (λ none. absurd none)) h
  filter_refused refusals.Memory h = tt

  pub spec_refused : (spec : Spec) → spec ≡ workload_spec n → (refusal : Refusal)
      → OnRefusal refusal (λ a. OnTarget (first_of_name spec.target devices) spec a (λ table. OnTable spec table a ⊥))
      → OnRefusal refusal (IsAnswerToWorkload n devices)
  spec_refused spec filter refusal h =
      filter_refused refusal
      (subst (λ s. OnRefusal refusal (λ a. OnTarget (first_of_name s.target devices) s a (λ table. OnTable s table a ⊥))) filter h)

  -- and so does a run of its circuit
  pub spec_worked : (spec : Spec) → spec ≡ workload_spec n → (circuit : Circuit) → IsCircuitFor spec false devices circuit → (a : Answer)
      → HasWorked n circuit.planned a
      → IsAnswerToWorkload n devices a
  spec_worked spec filter circuit is a h =
      let same : IsCircuitFor (workload_spec n) false devices circuit = subst (λ s. IsCircuitFor s false devices circuit) filter is in
      on_table_of (workload_spec n) devices a (λ table. OnTable (workload_spec n) table a (IsWorked n table a)) same.table same.of_target
      (inr (inr record {
        planned = circuit.planned;
        adders = circuit.adders.items;
        circuit = same.of_table;
        good = h.good;
        judged = h.judged;
        answer = h.answer;
      }))

  -- the answer to a number has status 0 or 1
  number_status : (a : Answer) → IsAnswerToWorkload n devices a → (status_of a ≡ 0) ⊎ (status_of a ≡ 1)
  number_status a h =
      cases_of_target devices (workload_spec n) a (λ table. OnTable (workload_spec n) table a (IsWorked n table a))
      ((status_of a ≡ 0) ⊎ (status_of a ≡ 1))
      (λ found is. inr (ap status_of is))
      (λ device found takes is. inr (ap status_of is))
      (λ table of on. elim on [
        | inl short ↦ inr (ap status_of short.answer)
        | inr (inl large) ↦ inr (ap status_of large.answer)
        | inr (inr made) ↦ inl (ap status_of made.answer)
      ]) h

  module _ (told : Option Files) (before now : Reads) where
    answers : (a : Answer) → IsAnswerToWorkload n devices a → IsListed a → IsPrepared (Some (Workload n)) devices told before now a
    answers a is listed =
        let status = number_status a is in record {
          listed = listed;
          usage = λ other. absurd (elim status [ inl e ↦ omega (arith, e, other) | inr e ↦ omega (arith, e, other) ]);
          read_counted = λ other. absurd (elim status [ inl e ↦ omega (arith, e, other) | inr e ↦ omega (arith, e, other) ]);
          long_counted = λ other. absurd (elim status [ inl e ↦ omega (arith, e, other) | inr e ↦ omega (arith, e, other) ]);
          due = λ files there. inr is;
        }

    pub workload-prepared : (r : Result Held Refusal) → OnAnswer r (IsAnswerToWorkload n devices) → OnAnswer r IsListed
        → OnAnswer r (IsPrepared (Some (Workload n)) devices told before now)
    workload-prepared (Ok held) is listed = answers (answer_of held) is listed
    workload-prepared (Err (refusals.Line line)) is listed = answers (refusal line) is listed
    workload-prepared (Err refusals.Memory) is listed = tt

pub worked_listed : (n : ℕ) (planned : Planned) (a : Answer) → HasWorked n planned a → IsListed a
worked_listed n planned a h =
    subst IsListed (sym h.answer)
    (listed_success (success (printed.Worked n (length planned.design.signals) planned.latency h.good) []) tt refl)
