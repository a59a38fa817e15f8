-- That a specification, VHDL and vectors leave no answer of `check` is impossible.
use Rattle.std.proofs.Common.{◌≡◌, ◌≢◌, inl, inr, ℕ, zero, suc, ◌+◌, ◌-◌, ◌<◌, List, [], length, Result, Ok, Err, refl, subst, arith}
use Rattle.std.specs.Str.Lines.{lines}
use Rattle.std.proofs.lemmas.Bool.{cases_lt}
use Rattle.opgen_check.specs.Ports.{PortsAgree}
use Rattle.opgen_check.specs.Verdict.{IsGoodAt, IsJudged}
use Rattle.opgen_design.specs.declared.design.Design.{Design}
use Rattle.opgen_design.specs.Run.{input_widths}
use Rattle.opgen_operator.specs.declared.spec.Spec.{Spec}
use Rattle.opgen_read.specs.declared.fault.ReadFault.{ReadFault}
use Rattle.opgen_read.specs.declared.fault.ReadFault.TheVariants as read
use Rattle.opgen_read.specs.Answer.{IsReadFault}
use Rattle.opgen_runs.specs.Rows.{IsRunOf}
use Rattle.opgen_spec.specs.declared.fault.SpecFault.{SpecFault}
use Rattle.opgen_document.specs.Document.{tree}
use Rattle.opgen_spec.specs.Faults.{read as read_spec}
use Rattle.opgen_vec.specs.declared.fault.VecFault.{VecFault}
use Rattle.opgen_vec.specs.Reading.{IsReading}
use Rattle.opgen_vec.proofs.Rows.{rows-of_cells}
use Rattle.opgen_part_laws.proofs.Classical.{decided}
use Rattle.opgen_top.specs.declared.line.Line.TheVariants as printed
use Rattle.opgen_top.specs.Answer.{Answer, refusal, success}
use Rattle.opgen_top.specs.Check.{GivesRows, IsAnswerToCheck, IsAnswerToVhdl}
use Rattle.opgen_top.specs.Simulate.{GivesDesign}
use Rattle.opgen_top.specs.Specified.{OnReading}
use Rattle.opgen_laws.proofs.SomeRun.{some_run}
use Rattle.opgen_laws.proofs.SomeSimulated.{some_design}

module _ (spec : Spec) (latency : ℕ) (text vectors : List ℕ) (none : (a : Answer) → IsAnswerToVhdl spec latency text vectors a → ⊥) where
  abbrev count : ℕ
  count = length (lines vectors)

  module _ (d : Design) (cells : List ℕ) (gives : GivesRows text vectors d cells) (agree : PortsAgree spec d) (outputs : List ℕ)
      (run : IsRunOf d count cells outputs) where
    -- each judged row below a number is good
    abbrev GoodBelow : (row : ℕ) → Type 0
    GoodBelow row = (u : ℕ) → u < row → IsJudged latency count u → IsGoodAt spec latency cells outputs u

    one_more : (row : ℕ) → GoodBelow row → (IsJudged latency count row → IsGoodAt spec latency cells outputs row) → GoodBelow (suc row)
    one_more row good here u lt judged = elim (cases_lt u row) [
      | inl before ↦ good u before judged
      | inr past ↦
          let same : row ≡ u = omega (arith, lt, past) in
          subst (IsGoodAt spec latency cells outputs) same (here (subst (IsJudged latency count) (omega (arith, same)) judged))
    ]

    bad : (row : ℕ) → GoodBelow row → IsJudged latency count row → (IsGoodAt spec latency cells outputs row → ⊥) → ⊥
    bad row good judged is_bad =
        none (refusal (printed.BadRow row)) (inr (inr (inr (inl record {
          row = row;
          verdict = record {
            design = d;
            cells = cells;
            rows = gives;
            agree = agree;
            verdict = record { outputs = outputs; run = run; verdict = record { judged = judged; bad = is_bad; before = good } };
          };
          answer = refl;
        }))))

    -- the rows from one on, of which so many are left
    from_row : (left row : ℕ) → left + row ≡ count → GoodBelow row → ⊥
    from_row zero row all good =
        none (success (printed.Good (count - latency)) []) (inr (inr (inr (inr record {
          judged = count - latency;
          verdict = record {
            design = d;
            cells = cells;
            rows = gives;
            agree = agree;
            verdict = record {
              outputs = outputs;
              run = run;
              verdict = record { good = λ u judged. good u (let there = judged.there in omega (arith, there, all)) judged; counted = refl };
            };
          };
          answer = refl;
        }))))
    from_row (suc left) row all good = elim (cases_lt row latency) [
      | inl before ↦ from_row left (suc row) (omega (arith, all))
          (one_more row good (λ judged. absurd (let from = judged.from in omega (arith, before, from))))
      | inr from ↦ decided {P = IsGoodAt spec latency cells outputs row} (λ v. elim v [
        | inl is_good ↦ from_row left (suc row) (omega (arith, all)) (one_more row good (λ judged. is_good))
        | inr is_bad ↦ bad row good (record { from = from; there = omega (arith, all) }) is_bad
      ])
    ]

    by_verdict : ⊥
    by_verdict = from_row count 0 (omega arith) (λ u lt judged. absurd (omega (arith, lt)))

  by_cause : (fault : ReadFault) → fault ≢ read.Memory → IsReadFault text fault → ⊥
  by_cause fault of_text cause =
      none (refusal (printed.VhdlRefused fault)) (inl (record { fault = fault; of_text = of_text; cause = cause; answer = refl }))

  by_rows : (d : Design) → GivesDesign text d → (r : Result (List ℕ) VecFault) → IsReading (input_widths d) (lines vectors) r → ⊥
  by_rows d gives (Ok cells) h =
      let given : GivesRows text vectors d cells = record { gives = gives; reads = h } in
      let run = some_run d gives.sound count cells (rows-of_cells (input_widths d) cells (lines vectors) h.rows) in
      decided {P = PortsAgree spec d} (λ v. elim v [
        | inl agree ↦ by_verdict d cells given agree run.0 run.1
        | inr differ ↦ none (refusal printed.Ports) (inr (inr (inl (record {
          design = d;
          cells = cells;
          rows = given;
          differ = differ;
          answer = refl;
        }))))
      ])
  by_rows d gives (Err fault) h =
      none (refusal (printed.VectorsRefused fault)) (inr (inl (record {
        design = d;
        gives = gives;
        refused = record { fault = fault; cause = h; answer = refl };
      })))

  some_to_vhdl : ⊥
  some_to_vhdl = some_design text vectors by_cause by_rows

some_on_reading : (r : Result Spec SpecFault) (said : Spec → Answer → Type 0)
    → ((spec : Spec) → ((a : Answer) → said spec a → ⊥) → ⊥) → ((a : Answer) → OnReading r a (λ spec. said spec a) → ⊥) → ⊥
some_on_reading (Ok spec) said some none = some spec none
some_on_reading (Err fault) said some none = none (refusal (printed.Refused fault)) refl

pub some_checked : (latency : ℕ) (bytes text vectors : List ℕ) → ((a : Answer) → IsAnswerToCheck latency bytes text vectors a → ⊥) → ⊥
some_checked latency bytes text vectors none =
    some_on_reading (read_spec (tree bytes)) (λ spec a. IsAnswerToVhdl spec latency text vectors a)
    (λ spec. some_to_vhdl spec latency text vectors) none
