-- The bytes of VHDL and of vectors leave at most one answer.
use Rattle.std.proofs.Common.{◌≡◌, inl, inr, ℕ, List, [], ◌∷◌, length, Result, Ok, Err, sym, ap, ◌∙◌, subst}
use Rattle.std.specs.Str.Lines.{lines}
use Rattle.opgen_design.specs.declared.design.Design.{Design}
use Rattle.opgen_design.specs.Run.{input_widths, output_widths}
use Rattle.opgen_design.specs.Sound.{IsSound}
use Rattle.opgen_vhdl.proofs.Walks.{one_design}
use Rattle.opgen_part_laws.proofs.FirstCause.{one_cause, no_cause}
use Rattle.opgen_vec.specs.declared.fault.VecFault.{VecFault}
use Rattle.opgen_vec.specs.Reading.{IsReading}
use Rattle.opgen_part_laws.proofs.OneReadingOfRows.{one_reading}
use Rattle.opgen_top.specs.declared.line.Line.TheVariants as printed
use Rattle.opgen_top.specs.Answer.{Answer, file, refusal, success}
use Rattle.opgen_runs.proofs.Rows.{one_outputs}
use Rattle.opgen_vec.specs.Writing.{rows_text}
use Rattle.opgen_top.specs.Running.{IsRunText}
use Rattle.opgen_top.specs.Simulate.{GivesDesign, RefusesVhdl, RefusesVectors, Runs, IsSimulated}

-- a sound design has at most one text of its run
pub one_text : (d : Design) → IsSound d → (rows : ℕ) (inputs text other : List ℕ) → IsRunText d rows inputs text
    → IsRunText d rows inputs other → text ≡ other
one_text d sound rows inputs text other h k =
    let outputs = one_outputs d sound rows inputs h.outputs k.outputs h.run k.run in
    h.written ∙ ap (λ os. rows_text (input_widths d) (output_widths d) rows inputs os) outputs ∙ sym k.written

module _ (text vectors : List ℕ) where
  -- a text that gives a design has no cause against it
  pub not_both : (design : Design) (a : Answer) → GivesDesign text design → RefusesVhdl text a → ⊥
  not_both design a gives refused =
      refused.of_text (no_cause text design refused.fault gives.spelled gives.within gives.sound refused.cause)

  -- two readings under one design are one
  pub one_read : (c d : Design) → GivesDesign text c → GivesDesign text d → (r s : Result (List ℕ) VecFault)
      → IsReading (input_widths c) (lines vectors) r → IsReading (input_widths d) (lines vectors) s → r ≡ s
  one_read c d gc gd r s h k =
      let same = one_design text c d gc.spelled gd.spelled in
      one_reading (input_widths d) (lines vectors) r s (subst (λ x. IsReading (input_widths x) (lines vectors) r) same h) k

  pub one_fault : (a b : Answer) → RefusesVhdl text a → RefusesVhdl text b → a ≡ b
  one_fault a b h k =
      h.answer
      ∙ ap (λ f. refusal (printed.VhdlRefused f)) (one_cause text h.fault k.fault h.of_text k.of_text h.cause k.cause)
      ∙ sym k.answer

  pub one_vectors_fault : (a b : Answer) → RefusesVectors text vectors a → RefusesVectors text vectors b → a ≡ b
  one_vectors_fault a b h k =
      let p = h.refused in
      let q = k.refused in
      let reads : Err p.fault ≡ Err q.fault = one_read h.design k.design h.gives k.gives (Err p.fault) (Err q.fault) p.cause q.cause in
      let same : p.fault ≡ q.fault = cc in p.answer ∙ ap (λ f. refusal (printed.VectorsRefused f)) same ∙ sym q.answer

module _ (out text vectors : List ℕ) where
  not_run : (a b : Answer) → RefusesVectors text vectors a → Runs out text vectors b → ⊥
  not_run a b h k =
      let p = h.refused in
      let reads : Err p.fault ≡ Ok k.cells = one_read text vectors h.design k.design h.gives k.gives (Err p.fault) (Ok k.cells) p.cause k.read in cc

  one_run : (a b : Answer) → Runs out text vectors a → Runs out text vectors b → a ≡ b
  one_run a b h k =
      let count = length (lines vectors) in
      let design = one_design text h.design k.design h.gives.spelled k.gives.spelled in
      let reads : Ok h.cells ≡ Ok k.cells = one_read text vectors h.design k.design h.gives k.gives (Ok h.cells) (Ok k.cells) h.read k.read in
      let cells : h.cells ≡ k.cells = cc in
      let run = subst (λ d. IsRunText d count k.cells h.rows) design (subst (λ cs. IsRunText h.design count cs h.rows) cells h.run) in
      let rows = one_text k.design k.gives.sound count k.cells h.rows k.rows run k.run in
      h.answer ∙ ap (λ r. success (printed.Simulated count) (file out r ∷ [])) rows ∙ sym k.answer

  pub one_simulated : (a b : Answer) → IsSimulated out text vectors a → IsSimulated out text vectors b → a ≡ b
  one_simulated a b (inl h) (inl k) = one_fault text vectors a b h k
  one_simulated a b (inl h) (inr (inl k)) = absurd (not_both text vectors k.design a k.gives h)
  one_simulated a b (inl h) (inr (inr k)) = absurd (not_both text vectors k.design a k.gives h)
  one_simulated a b (inr (inl h)) (inl k) = absurd (not_both text vectors h.design b h.gives k)
  one_simulated a b (inr (inl h)) (inr (inl k)) = one_vectors_fault text vectors a b h k
  one_simulated a b (inr (inl h)) (inr (inr k)) = absurd (not_run a b h k)
  one_simulated a b (inr (inr h)) (inl k) = absurd (not_both text vectors h.design b h.gives k)
  one_simulated a b (inr (inr h)) (inr (inl k)) = absurd (not_run b a k h)
  one_simulated a b (inr (inr h)) (inr (inr k)) = one_run a b h k
