use Rattle.std.proofs.Common.{ap, ◌∙◌, arith}
use Rattle.std.specs.Prelude.{map}
use Rattle.opgen_design.specs.declared.design.TheConstants.{MAX_SIGNALS}
use Rattle.opgen_net.specs.Classes.{classes}
use Rattle.opgen_target.specs.Ledger.{width_sum}
use Rattle.opgen_pipe.specs.Cells.{design_cells}
use Rattle.opgen_pipe.specs.Copies.{net_latency, signal_count}
use Rattle.opgen_pipe.specs.Pipelined.{design_of}
use Rattle.opgen_pipe.proofs.Fitting.{latency-few}
use Rattle.opgen_pipe.proofs.Timed.{plan-has_few, plan-in_time, plan-is_least}
use Rattle.opgen_pipe.proofs.planning.plan.Goals as goal

pub overflow_cast-result : goal.overflow_cast-result
overflow_cast-result g c =
    let l = c.in_ok-layout.ensures in
    omega (arith, latency-few c.args.net.now c.in_ok-layout.layout l.layout MAX_SIGNALS l.outcome.1)

pub returns-clause-outcome : goal.returns-clause-outcome
returns-clause-outcome g c =
    let net = c.args.net.now in
    let l = c.in_ok-layout.ensures in
    let e = l.outcome.2.schedule in (
      l.outcome.0,
      omega (arith, l.outcome.1, ap (signal_count net) e),
      record {
        design = c.in_ok-design.ensures ∙ ap (design_of c.args.name.now c.args.enable net) e;
        latency = l.layout.latency ∙ ap (net_latency net) e;
        slack = l.outcome.2.slack;
        cells = c.in_ok-cells.ensures.cells ∙ ap (λ s. map (width_sum (design_cells net s)) classes) e;
      },
    )

pub returns-clause-fits : goal.returns-clause-fits
returns-clause-fits g c =
    let o = returns-clause-outcome g c in
    plan-in_time c.args.timing.placing _ c.args.timing.period c.args.net.now c.requires.valid c.args.name.now c.args.enable _ o.0 o.2

pub returns-clause-least : goal.returns-clause-least
returns-clause-least g c =
    let o = returns-clause-outcome g c in
    plan-is_least c.args.timing.placing _ c.args.timing.period c.args.net.now c.requires.valid _ o.0 o.2.latency

pub returns-clause-few : goal.returns-clause-few
returns-clause-few g c =
    let o = returns-clause-outcome g c in
    plan-has_few c.args.timing.placing _ c.args.timing.period c.args.net.now c.requires.valid o.0

pub returns-clause-ledger : goal.returns-clause-ledger
returns-clause-ledger g c = λ class.
    let net = c.args.net.now in
    c.in_ok-cells.ensures.ledger class
    ∙ ap (λ s. width_sum (design_cells net s) class) c.in_ok-layout.ensures.outcome.2.schedule
