use Rattle.std.proofs.Common.{sym, subst}
use Rattle.opgen_num.specs.Words.{AreRowsOfCells}
use Rattle.opgen_design.specs.Run.{input_widths}
use Rattle.opgen_design.specs.Sound.{HasNumbers, IsSound}
use Rattle.opgen_lanes.specs.Steps.{AreNew}
use Rattle.opgen_runs.specs.Rows.{IsRunOf}
use Rattle.opgen_sim.specs.Rows.{AreWidths, IsForStreams}
use Rattle.opgen_sim.proofs.streams.run_streams.Goals as goal

pub run_lanes-requires : goal.run_lanes-requires
run_lanes-requires c =
    let l = c.in_ok-lanes.lanes in
    let new = c.in_ok-lanes.ensures.new in
    let same = sym new.design in
    record {
      new = subst (λ d. AreNew d l) same new;
      sound = subst IsSound same c.requires.sound;
      numbers = subst HasNumbers same c.in_ok-lanes.ensures.numbers;
      widths = subst (λ d. AreWidths d c.args.widths.now) same c.requires.widths;
      rows = subst (λ d. AreRowsOfCells (input_widths d) c.args.rows c.args.cells.now) same c.requires.rows;
      depth = subst (λ d. IsForStreams d c.args.rows c.args.depth) same c.requires.depth;
    }

pub returns-clause-run : goal.returns-clause-run
returns-clause-run c = subst (λ d. IsRunOf d c.args.rows c.args.cells.now c.in_ok-run_lanes.field-0.items) c.in_ok-lanes.ensures.new.design
    c.in_ok-run_lanes.ensures
