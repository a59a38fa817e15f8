use Rattle.opgen_top.proofs.PreparingRuns.{run_made}
use Rattle.opgen_top.proofs.simulate.store_run.Goals as goal

pub returns : goal.returns
returns c =
    let rows = c.args.rows.now in
    run_made c.args.out.now c.args.design rows.count rows.inputs.cells.items _ _ _ c.in_ok-text.ensures
    c.in_ok-from_str.ensures.ok c.in_ok-with_file.ensures
