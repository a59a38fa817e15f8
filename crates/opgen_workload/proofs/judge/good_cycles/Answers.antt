use Rattle.std.proofs.Common.{◌≡◌, ◌+◌, ℕ, length, ap, sym, subst, arith}
use Rattle.opgen_operator.specs.Operator.{operator_inputs}
use Rattle.opgen_operator.specs.Outputs.{inputs_of}
use Rattle.opgen_workload.specs.Judged.{Counts, IsGoodCycle}
use Rattle.opgen_workload.proofs.Counting.{one_more, no_more}
use Rattle.opgen_workload.proofs.OnePort.{one_history}
use Rattle.opgen_workload.proofs.judge.good_cycles.Goals.{then-is_good_row, else-is_good_row}
use Rattle.opgen_workload.proofs.judge.good_cycles.Goals as goal

pub is_good_row-requires-clause-inputs : goal.is_good_row-requires-clause-inputs
is_good_row-requires-clause-inputs c =
    let spec = c.args.spec.now in
    let one : length (inputs_of spec) ≡ 1 = ap (λ op. length (operator_inputs op)) c.requires.filter.1 in
    one_history (inputs_of spec) (c.cycles.cycle + 1) c.args.inputs.now one (omega arith)
    (omega (arith, c.requires.cycles, c.cycles-test.true)) c.requires.inputs

pub cycles-preserved : goal.cycles-preserved
cycles-preserved c =
    let P : ℕ → Type 0 = IsGoodCycle c.args.spec.now c.args.inputs.now c.args.outputs.now c.args.latency in
    let at = c.cycles.cycle in
    elim c.if-is_good_row.branch [
      | then-is_good_row w ↦ record {
        within = omega (arith, c.cycles-test.true);
        fewer = omega (arith, c.cycles.invariant.fewer, w.good-is);
        counted = subst (Counts P (at + 1)) (sym w.good-is)
            (one_more P at c.cycles.good (c.is_good_row.ensures.0 w.if-is_good_row.true) c.cycles.invariant.counted);
      }
      | else-is_good_row w ↦ record {
        within = omega (arith, c.cycles-test.true);
        fewer = omega (arith, c.cycles.invariant.fewer, w.good-is);
        counted = subst (Counts P (at + 1)) (sym w.good-is)
            (no_more P at c.cycles.good (λ good. let yes = c.is_good_row.ensures.1 good in cc) c.cycles.invariant.counted);
      }
    ]
