use Rattle.std.proofs.Common.{[], ◌∷◌, ◌++◌, ap, ◌∙◌}
use Rattle.opgen_lanes.proofs.Beginning.{listed}
use Rattle.opgen_lanes.proofs.bank.signal_widths.Goals as goal

pub loop-signal-preserved : goal.loop-signal-preserved
loop-signal-preserved c =
    let x = c.signal-item.result in
    c.in_ok-push.ensures.items
    ∙ ap (λ ws. ws ++ x.width ∷ []) c.loop-signal.invariant
    ∙ listed (λ x. x.width) c.args.signals.now c.loop-signal.signal-index x c.loop-signal-test.true c.signal-item.is
