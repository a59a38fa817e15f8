-- A specification, VHDL and vectors leave at most one answer of `check`.
use Rattle.std.proofs.Common.{◌≡◌, ◌⊎◌, inl, inr, ℕ, List, length, Ok, Err, sym, ap, ◌∙◌, subst}
use Rattle.std.specs.Str.Lines.{lines}
use Rattle.opgen_check.specs.declared.checked.Checked.{Checked}
use Rattle.opgen_check.specs.declared.checked.Checked.TheVariants.{Good, Bad}
use Rattle.opgen_check.specs.Ports.{PortsAgree}
use Rattle.opgen_check.specs.Verdict.{IsChecked}
use Rattle.opgen_check.proofs.Judging.{one_verdict}
use Rattle.opgen_design.specs.declared.design.Design.{Design}
use Rattle.opgen_operator.specs.declared.spec.Spec.{Spec}
use Rattle.opgen_vhdl.proofs.Walks.{one_design}
use Rattle.opgen_top.specs.Answer.{Answer}
use Rattle.opgen_top.specs.Check.{FindsBad, FindsGood, GivesRows, IsAnswerToVhdl, IsVerdictOnVhdl, RefusesPorts}
use Rattle.opgen_top.specs.Prepared.{verdict_answer}
use Rattle.opgen_top.specs.Simulate.{RefusesVectors}
use Rattle.opgen_laws.proofs.OneSimulated.{not_both, one_fault, one_read, one_vectors_fault}

module _ (spec : Spec) (latency : ℕ) (text vectors : List ℕ) where
  -- rows that were judged, or ports that are others
  abbrev Judges : Answer → Type 0
  Judges a = FindsBad spec latency text vectors a ⊎ FindsGood spec latency text vectors a

  abbrev OnRows : Answer → Type 0
  OnRows a = RefusesPorts spec text vectors a ⊎ Judges a

  record Found (a : Answer) : Type 0 where
    checked : Checked
    verdict : IsVerdictOnVhdl spec latency text vectors checked
    answer : a ≡ verdict_answer checked

  found : (a : Answer) → Judges a → Found a
  found a (inl bad) = record { checked = Bad bad.row; verdict = bad.verdict; answer = bad.answer }
  found a (inr good) = record { checked = Good good.judged; verdict = good.verdict; answer = good.answer }

  one_checked : (one other : Checked) → IsVerdictOnVhdl spec latency text vectors one → IsVerdictOnVhdl spec latency text vectors other
      → one ≡ other
  one_checked one other h k =
      let count = length (lines vectors) in
      let design = one_design text h.design k.design h.rows.gives.spelled k.rows.gives.spelled in
      let reads : Ok h.cells ≡ Ok k.cells =
      one_read text vectors h.design k.design h.rows.gives k.rows.gives (Ok h.cells) (Ok k.cells) h.rows.reads k.rows.reads in
      let cells : h.cells ≡ k.cells = cc in
      let verdict = subst (λ d. IsChecked spec d latency count k.cells one) design
      (subst (λ cs. IsChecked spec h.design latency count cs one) cells h.verdict) in
      one_verdict spec k.design latency count k.cells one other k.rows.gives.sound verdict k.verdict

  one_found : (a b : Answer) → Found a → Found b → a ≡ b
  one_found a b h k = h.answer ∙ ap verdict_answer (one_checked h.checked k.checked h.verdict k.verdict) ∙ sym k.answer

  -- ports that are others leave no verdict
  not_judged : (a b : Answer) → RefusesPorts spec text vectors a → Found b → ⊥
  not_judged a b h k =
      let design = one_design text k.verdict.design h.design k.verdict.rows.gives.spelled h.rows.gives.spelled in
      h.differ (subst (PortsAgree spec) design k.verdict.agree)

  one_on_rows : (a b : Answer) → OnRows a → OnRows b → a ≡ b
  one_on_rows a b (inl h) (inl k) = h.answer ∙ sym k.answer
  one_on_rows a b (inl h) (inr k) = absurd (not_judged a b h (found b k))
  one_on_rows a b (inr h) (inl k) = absurd (not_judged b a k (found a h))
  one_on_rows a b (inr h) (inr k) = one_found a b (found a h) (found b k)

  -- either way there are a design and rows of its inputs
  has_rows : (a : Answer) → OnRows a → (d : Design) × (cells : List ℕ) × GivesRows text vectors d cells
  has_rows a (inl h) = (h.design, h.cells, h.rows)
  has_rows a (inr (inl h)) = (h.verdict.design, h.verdict.cells, h.verdict.rows)
  has_rows a (inr (inr h)) = (h.verdict.design, h.verdict.cells, h.verdict.rows)

  not_rows : (a b : Answer) → RefusesVectors text vectors a → OnRows b → ⊥
  not_rows a b h on =
      let (d, cells, k) = has_rows b on in
      let p = h.refused in
      let reads : Err p.fault ≡ Ok cells = one_read text vectors h.design d h.gives k.gives (Err p.fault) (Ok cells) p.cause k.reads in cc

  pub one_to_vhdl : (a b : Answer) → IsAnswerToVhdl spec latency text vectors a → IsAnswerToVhdl spec latency text vectors b → a ≡ b
  one_to_vhdl a b (inl h) (inl k) = one_fault text vectors a b h k
  one_to_vhdl a b (inl h) (inr (inl k)) = absurd (not_both text vectors k.design a k.gives h)
  one_to_vhdl a b (inl h) (inr (inr k)) =
      let (d, cells, rows) = has_rows b k in absurd (not_both text vectors d a rows.gives h)
  one_to_vhdl a b (inr (inl h)) (inl k) = absurd (not_both text vectors h.design b h.gives k)
  one_to_vhdl a b (inr (inl h)) (inr (inl k)) = one_vectors_fault text vectors a b h k
  one_to_vhdl a b (inr (inl h)) (inr (inr k)) = absurd (not_rows a b h k)
  one_to_vhdl a b (inr (inr h)) (inl k) =
      let (d, cells, rows) = has_rows a h in absurd (not_both text vectors d b rows.gives k)
  one_to_vhdl a b (inr (inr h)) (inr (inl k)) = absurd (not_rows b a k h)
  one_to_vhdl a b (inr (inr h)) (inr (inr k)) = one_on_rows a b h k
