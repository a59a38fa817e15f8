-- All cycles of a workload from the latency on are good.
use Rattle.std.proofs.Common.{◌≡◌, ℕ, zero, suc, ◌+◌, ◌-◌, ◌*◌, ◌<◌, ◌≤◌, false, List, [], ◌∷◌, length, map, take, drop, refl, sym, ap, ◌∙◌, subst, arith}
use Rattle.std.specs.Prelude.{slice_index, codes}
use Rattle.std.proofs.lemmas.List.Elements.{All-cons, All-nil}
use Rattle.opgen_num.specs.Words.{AreRowsOfCells}
use Rattle.opgen_check.specs.Verdict.{row_of, rows_up_to}
use Rattle.opgen_design.specs.declared.design.Design.{Design}
use Rattle.opgen_design.specs.Run.{at_ports, is_in, is_out, input_widths, output_widths}
use Rattle.opgen_operator.specs.declared.spec.Spec.{Spec}
use Rattle.opgen_kinds.specs.Sum.{sum_format}
use Rattle.opgen_operator.specs.Operator.{divisor}
use Rattle.opgen_operator.specs.Outputs.{inputs_of}
use Rattle.opgen_ports.specs.Ports.{port}
use Rattle.opgen_target.specs.Delays.{Delays}
use Rattle.opgen_vec.specs.GoodRow.{IsGoodRow}
use Rattle.opgen_vec.proofs.Draws.{rows_fit}
use Rattle.opgen_workload.specs.Filter.{workload_spec, workload_sum}
use Rattle.opgen_workload.specs.Judged.{IsGoodCycle}
use Rattle.opgen_workload.proofs.Counting.{all_count, one_count}
use Rattle.opgen_workload.proofs.Valid.{workload_valid}
use Rattle.opgen_top.specs.Answer.{Answer}
use Rattle.opgen_top.specs.Circuit.{CircuitsServe}
use Rattle.opgen_operator.specs.Serves.{Serves}
use Rattle.opgen_top.specs.Workload.{IsWorked, cycles, workload_cells}
use Rattle.opgen_top.proofs.RunRows.{length-run}
use Rattle.opgen_laws.proofs.GoodRows.{good_row}
use Rattle.opgen_laws.specs.Workloads.{WorkloadsAreGood}

-- a row of one cell
one_cell : (cells : List ℕ) (row : ℕ) → row < length cells → take 1 (drop row cells) ≡ slice_index cells row ∷ []
one_cell [] row lt = absurd (omega (arith, lt))
one_cell (c ∷ cells) zero lt = refl
one_cell (c ∷ cells) (suc row) lt = one_cell cells row (omega (arith, lt))

cells-fit : (n : ℕ) → AreRowsOfCells ((workload_sum n).input.width ∷ []) cycles (workload_cells n)
cells-fit n =
    let spec = workload_spec n in
    let input = (workload_sum n).input in
    let bit : 1 ≤ input.width = omega arith in
    rows_fit (divisor spec.op) (inputs_of spec) cycles n
    (All-cons (λ port. 1 ≤ port.format.width) (port (codes "x") input) [] bit (All-nil (λ port. 1 ≤ port.format.width)))

module _ (n : ℕ) (table : Delays) (a : Answer) (w : IsWorked n table a)
    (serves : Serves (workload_spec n) w.planned.latency false w.planned.design) where
  abbrev d : Design
  d = w.planned.design

  abbrev spec : Spec
  spec = workload_spec n

  ins : input_widths d ≡ (workload_sum n).input.width ∷ []
  ins = subst (λ ps. at_ports is_in ps (map (λ p. p.width) ps) ≡ (workload_sum n).input.width ∷ []) (sym serves.ports) refl

  outs : output_widths d ≡ (sum_format (workload_sum n)).width ∷ []
  outs = subst (λ ps. at_ports is_out ps (map (λ p. p.width) ps) ≡ (sum_format (workload_sum n)).width ∷ []) (sym serves.ports) refl

  good : (place : ℕ) → place < cycles - w.planned.latency
      → IsGoodCycle spec (workload_cells n) w.judged.outputs w.planned.latency place
  good place lt =
      let cells = workload_cells n in
      let outputs = w.judged.outputs in
      let row = place + w.planned.latency in
      let count : length outputs ≡ cycles = length-run d cycles cells outputs w.judged.run ∙ (ap (λ ws. cycles * length ws) outs ∙ omega arith) in
      let fit = subst (λ ws. AreRowsOfCells ws cycles cells) (sym ins) (cells-fit n) in
      let at = good_row spec (omega arith) w.planned.latency d serves cycles cells outputs fit w.judged.run row (record {
        from = omega arith;
        there = omega (arith, lt);
      }) in
      let before : rows_up_to 1 (row - w.planned.latency) cells ≡ take (place + 1) cells = ap (λ k. take k cells) (omega arith) in
      let shown : row_of 1 row outputs ≡ slice_index outputs row ∷ [] =
      ap (λ k. take 1 (drop k outputs)) (omega arith) ∙ one_cell outputs row (omega (arith, count, lt)) in
      subst (IsGoodRow spec (take (place + 1) cells)) shown (subst (λ h. IsGoodRow spec h (row_of 1 row outputs)) before at)

-- where every circuit serves, every workload is good
pub workloads_good : CircuitsServe → WorkloadsAreGood
workloads_good serve n some few table a w =
    let most = cycles - w.planned.latency in
    let P = IsGoodCycle (workload_spec n) (workload_cells n) w.judged.outputs w.planned.latency in
    let all = good n table a w (serve (workload_spec n) (workload_valid n some few) table false w.planned w.adders w.circuit) in
    one_count P most w.good most w.judged.counted (all_count P most all)
