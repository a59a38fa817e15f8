-- The rows of a run that are judged so far.
use Rattle.std.proofs.Common.{◌≡◌, inl, inr, ℕ, zero, suc, ◌+◌, ◌<◌, Bool, List, [], ◌∷◌, length, map, take, drop, refl, sym, ap, ◌∙◌, subst, arith}
use Rattle.std.specs.List.{concat}
use Rattle.std.proofs.lemmas.Bool.{cases_lt}
use Rattle.std.proofs.lemmas.List.{take_at, drop_at}
use Rattle.opgen_num.proofs.RowsOfCells.{length-cells}
use Rattle.opgen_design.specs.declared.design.Design.{Design}
use Rattle.opgen_design.specs.Run.{Words, RunsOn, at_ports, input_widths, is_out}
use Rattle.opgen_design.specs.Sound.{port_widths}
use Rattle.opgen_operator.specs.declared.spec.Spec.{Spec}
use Rattle.opgen_num.specs.Words.{FitWidths, AreRowsOfCells, words_of}
use Rattle.opgen_runs.specs.Rows.{RunsRows, output_cells, rows_words}
use Rattle.opgen_runs.proofs.Rows.{cells-fit, one_outputs}
use Rattle.opgen_check.specs.declared.checked.Checked.{Checked}
use Rattle.opgen_check.specs.declared.checked.Checked.TheVariants.{Good, Bad}
use Rattle.opgen_check.specs.Verdict.{HasOneVerdict, IsFirstBad, IsGoodAt, IsJudged, IsVerdict}

-- the outputs of a run are rows that fit its output ports
pub outputs_fit : (d : Design) (now : List (List Bool)) (rows : ℕ) (inputs outputs : List ℕ) → RunsRows d now rows inputs outputs
    → AreRowsOfCells (at_ports is_out d.ports (port_widths d)) rows outputs
outputs_fit d now rows inputs outputs run =
    subst (AreRowsOfCells widths rows) (sym run.outputs_are) (by now rows inputs run.words run.runs)
  where
    widths : List ℕ
    widths = at_ports is_out d.ports (port_widths d)

    by : (now : List (List Bool)) (rows : ℕ) (inputs : List ℕ) (vs : List Words) → RunsOn d now (rows_words (input_widths d) rows inputs) vs
        → AreRowsOfCells widths rows (concat (map (output_cells d) vs))
    by now zero inputs [] runs = refl
    by now zero inputs (v ∷ vs) runs = absurd runs
    by now (suc rows) inputs [] runs = absurd runs
    by now (suc rows) inputs (v ∷ vs) (next, cycle, later) =
        let first = output_cells d v in
        let rest = concat (map (output_cells d) vs) in
        let n = length (input_widths d) in
        let fit = cells-fit d now (words_of (input_widths d) (take n inputs)) next v cycle in
        let wide : length first ≡ length widths = length-cells widths first fit in (
          subst (FitWidths widths) (sym (take_at first rest (length widths) wide)) fit,
          subst (AreRowsOfCells widths rows) (sym (drop_at first rest (length widths) wide)) (by next rows (drop n inputs) vs later),
        )

module _ (spec : Spec) (latency rows : ℕ) (cells outputs : List ℕ) where
  -- each judged row below a number is good
  abbrev pub GoodBelow : (row : ℕ) → Type 0
  GoodBelow row = (u : ℕ) → u < row → IsJudged latency rows u → IsGoodAt spec latency cells outputs u

  -- one row more that is good or not judged
  pub passed : (row : ℕ) → GoodBelow row → (IsJudged latency rows row → IsGoodAt spec latency cells outputs row) → GoodBelow (row + 1)
  passed row before good u lt judged = elim (cases_lt u row) [
    | inl earlier ↦ before u earlier judged
    | inr past ↦
        let same : row ≡ u = omega (arith, lt, past) in
        subst (IsGoodAt spec latency cells outputs) same (good (subst (IsJudged latency rows) (sym same) judged))
  ]

one_bad : (spec : Spec) (latency rows : ℕ) (inputs outputs : List ℕ) (a b : ℕ) → IsFirstBad spec latency rows inputs outputs a
    → IsFirstBad spec latency rows inputs outputs b → a < b → ⊥
one_bad spec latency rows inputs outputs a b first other lt = first.bad (other.before a lt first.judged)

one_of : (spec : Spec) (latency rows : ℕ) (inputs outputs : List ℕ) (one other : Checked) → IsVerdict spec latency rows inputs outputs one
    → IsVerdict spec latency rows inputs outputs other → one ≡ other
one_of spec latency rows inputs outputs (Good a) (Good b) h k = ap Good (h.counted ∙ sym k.counted)
one_of spec latency rows inputs outputs (Good a) (Bad b) h k = absurd (k.bad (h.good b k.judged))
one_of spec latency rows inputs outputs (Bad a) (Good b) h k = absurd (h.bad (k.good a h.judged))
one_of spec latency rows inputs outputs (Bad a) (Bad b) h k = elim (cases_lt a b) [
  | inl lt ↦ absurd (one_bad spec latency rows inputs outputs a b h k lt)
  | inr ge ↦ elim (cases_lt b a) [
    | inl gt ↦ absurd (one_bad spec latency rows inputs outputs b a k h gt)
    | inr le ↦ let same : a ≡ b = omega (arith, ge, le) in ap Bad same
  ]
]

pub one_verdict : HasOneVerdict
one_verdict spec d latency rows inputs one other sound h k =
    let same = one_outputs d sound rows inputs h.outputs k.outputs h.run k.run in
    one_of spec latency rows inputs k.outputs one other (subst (λ os. IsVerdict spec latency rows inputs os one) same h.verdict) k.verdict
