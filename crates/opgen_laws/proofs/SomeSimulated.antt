-- That the bytes of VHDL and of vectors leave no answer is impossible.
use Rattle.std.proofs.Common.{◌≡◌, ◌≢◌, ℕ, ◌⊎◌, Bool, true, false, List, [], ◌∷◌, length, Result, Ok, Err, refl, inl, inr}
use Rattle.std.specs.Str.Lines.{lines}
use Rattle.opgen_design.specs.declared.design.Design.{Design}
use Rattle.opgen_design.specs.Run.{input_widths}
use Rattle.opgen_design.specs.Sound.{rule_number}
use Rattle.opgen_vhdl.specs.Spelled.{Statements}
use Rattle.opgen_vhdl.specs.Statements.{Reading}
use Rattle.opgen_vhdl.proofs.Walks.{one_answer}
use Rattle.opgen_read.specs.declared.fault.ReadFault.{ReadFault}
use Rattle.opgen_read.specs.declared.fault.ReadFault.TheVariants as read
use Rattle.opgen_read.specs.Answer.{IsWithinLimits, IsReadFault}
use Rattle.opgen_vec.specs.declared.fault.VecFault.{VecFault}
use Rattle.opgen_vec.specs.Reading.{IsReading}
use Rattle.opgen_vec.proofs.Rows.{rows-of_cells}
use Rattle.opgen_laws.specs.Verdict.{IsSoundOrFails}
use Rattle.opgen_part_laws.proofs.Classical.{decided}
use Rattle.opgen_laws.proofs.Verdict.{has_verdict}
use Rattle.opgen_top.specs.declared.line.Line.TheVariants as printed
use Rattle.opgen_top.specs.Answer.{Answer, file, refusal, success}
use Rattle.opgen_top.specs.Simulate.{GivesDesign, IsSimulated}
use Rattle.opgen_laws.proofs.SomeReading.{some_reading}
use Rattle.opgen_laws.proofs.SomeRun.{some_text}

-- a text spells a design, of whose inputs the vectors are rows or not, or has a cause against it
module _ (text vectors : List ℕ) (by_cause : (fault : ReadFault) → fault ≢ read.Memory → IsReadFault text fault → ⊥)
    (by_rows : (d : Design) → GivesDesign text d → (r : Result (List ℕ) VecFault) → IsReading (input_widths d) (lines vectors) r → ⊥)
  where
    by_names : (r : Reading) → Statements text r → IsWithinLimits r.design → (agrees : Bool) → r.agrees ≡ agrees → ⊥
    by_names r s within false e = by_cause (read.Unsound 1 0) (λ f. cc) (r, s, within, inl (e, refl, refl))
    by_names r s within true e = has_verdict r.design (λ (v : IsSoundOrFails r.design). elim v [
      | inl sound ↦
          let given = some_reading (input_widths r.design) (lines vectors) in
          by_rows r.design (record {
            spelled = record { read = r; statements = s; names_agree = e; design = refl };
            within = within;
            sound = sound;
          }) given.0 given.1
      | inr f ↦ by_cause (read.Unsound (rule_number f.0) f.1) (λ g. cc) (r, s, within, inr (e, f.0, refl, f.2))
    ])

    by_limits : (r : Reading) → Statements text r → ⊥
    by_limits r s = decided (λ (v : IsWithinLimits r.design ⊎ (IsWithinLimits r.design → ⊥)). elim v [
      | inl within ↦ by_names r s within r.agrees refl
      | inr beyond ↦ by_cause read.TooLarge (λ e. cc) (r, s, beyond)
    ])

    pub some_design : ⊥
    some_design = elim (one_answer text) [
      | inl r ↦ by_limits r.0 r.1
      | inr f ↦ elim f [
        | inl k ↦ by_cause (read.Syntax k.0) (λ e. cc) k.1
        | inr n ↦ by_cause (read.Lexical n.0) (λ e. cc) n.1
      ]
    ]

module _ (out text vectors : List ℕ) (none : (a : Answer) → IsSimulated out text vectors a → ⊥) where
  by_cause : (fault : ReadFault) → fault ≢ read.Memory → IsReadFault text fault → ⊥
  by_cause fault of_text cause =
      none (refusal (printed.VhdlRefused fault)) (inl (record { fault = fault; of_text = of_text; cause = cause; answer = refl }))

  by_rows : (d : Design) → GivesDesign text d → (r : Result (List ℕ) VecFault) → IsReading (input_widths d) (lines vectors) r → ⊥
  by_rows d gives (Ok cells) h =
      let count = length (lines vectors) in
      let run = some_text d gives.sound count cells (rows-of_cells (input_widths d) cells (lines vectors) h.rows) in
      none (success (printed.Simulated count) (file out run.0 ∷ [])) (inr (inr (record {
        design = d;
        gives = gives;
        cells = cells;
        read = h;
        rows = run.0;
        run = run.1;
        answer = refl;
      })))
  by_rows d gives (Err fault) h =
      none (refusal (printed.VectorsRefused fault)) (inr (inl (record {
        design = d;
        gives = gives;
        refused = record { fault = fault; cause = h; answer = refl };
      })))

  pub some_simulated : ⊥
  some_simulated = some_design text vectors by_cause by_rows
