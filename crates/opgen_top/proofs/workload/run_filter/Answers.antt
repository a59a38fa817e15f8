use Rattle.std.proofs.Common.{length, refl, sym, subst, ap, arith}
use Rattle.opgen_num.specs.Words.{AreRowsOfCells}
use Rattle.opgen_design.specs.Run.{input_widths}
use Rattle.opgen_runs.specs.Rows.{IsRunOf}
use Rattle.opgen_top.specs.Workload.{cycles}
use Rattle.opgen_top.proofs.Judging.{rows_fit, inputs_fit, cells-length, outputs_fit, outputs-length, is_filter, runs_good}
use Rattle.opgen_top.proofs.workload.run_filter.Goals as goal

pub run_rows-requires-clause-rows : goal.run_rows-requires-clause-rows
run_rows-requires-clause-rows c =
    let design = c.args.planned.design in
    subst (AreRowsOfCells (input_widths design) cycles) (sym c.deref.ensures.value)
    (rows_fit c.args.n c.args.spec.now c.requires.filter design c.requires.ports cycles _ c.in_ok-inputs.ensures.fit)

pub good_cycles-good-requires-clause-filter : goal.good_cycles-good-requires-clause-filter
good_cycles-good-requires-clause-filter c = is_filter c.args.n c.args.spec.now c.requires.filter c.args.planned.design c.requires.ports

pub good_cycles-good-requires-clause-cycles : goal.good_cycles-good-requires-clause-cycles
good_cycles-good-requires-clause-cycles c =
    let run = subst (λ xs. IsRunOf c.args.planned.design cycles xs c.in_ok-outputs.outputs.items) c.deref.ensures.value c.in_ok-outputs.ensures.run in
    let long =
    outputs-length c.args.n c.args.spec.now c.requires.filter c.args.planned.design c.requires.ports cycles _ c.in_ok-inputs.ensures.fit _ run in
    let also =
    cells-length c.args.n c.args.spec.now c.requires.filter c.args.planned.design c.requires.ports cycles _ c.in_ok-inputs.ensures.fit in
    omega (arith, ap length c.deref-2.ensures.value, ap length c.deref-3.ensures.value, long, also)

pub good_cycles-good-requires-clause-few : goal.good_cycles-good-requires-clause-few
good_cycles-good-requires-clause-few c =
    let run = subst (λ xs. IsRunOf c.args.planned.design cycles xs c.in_ok-outputs.outputs.items) c.deref.ensures.value c.in_ok-outputs.ensures.run in
    let long =
    outputs-length c.args.n c.args.spec.now c.requires.filter c.args.planned.design c.requires.ports cycles _ c.in_ok-inputs.ensures.fit _ run in
    omega (arith, ap length c.deref-3.ensures.value, long)

pub good_cycles-good-requires-clause-inputs : goal.good_cycles-good-requires-clause-inputs
good_cycles-good-requires-clause-inputs c =
    rw c.deref-2.ensures.value
    (inputs_fit c.args.n c.args.spec.now c.requires.filter c.args.planned.design c.requires.ports cycles _ c.in_ok-inputs.ensures.fit)

pub good_cycles-good-requires-clause-outputs : goal.good_cycles-good-requires-clause-outputs
good_cycles-good-requires-clause-outputs c =
    let run = subst (λ xs. IsRunOf c.args.planned.design cycles xs c.in_ok-outputs.outputs.items) c.deref.ensures.value c.in_ok-outputs.ensures.run in
    rw c.deref-3.ensures.value
    (outputs_fit c.args.n c.args.spec.now c.requires.filter c.args.planned.design c.requires.ports cycles _ c.in_ok-inputs.ensures.fit _ run)

pub returns : goal.returns
returns c =
    let run = subst (λ xs. IsRunOf c.args.planned.design cycles xs c.in_ok-outputs.outputs.items) c.deref.ensures.value c.in_ok-outputs.ensures.run in
    let design = c.args.planned.design in
    let cells = c.in_ok-inputs.inputs.cells.items in
    let outputs = c.in_ok-outputs.outputs.items in
    let long =
    outputs-length c.args.n c.args.spec.now c.requires.filter design c.requires.ports cycles cells c.in_ok-inputs.ensures.fit outputs run in
    let counted = rw (c.deref-2.ensures.value, c.deref-3.ensures.value) at c.good_cycles-good.ensures in record {
      good = c.good_cycles-good.result;
      judged = runs_good c.args.n c.args.spec.now c.requires.filter design c.args.planned.latency cells outputs c.good_cycles-good.result
          c.in_ok-inputs.ensures.cells run long counted;
      answer = rw (c.without_file.ensures, c.len-signals.ensures) refl;
    }
