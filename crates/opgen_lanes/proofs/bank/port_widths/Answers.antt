use Rattle.std.proofs.Common.{[], ◌∷◌, ◌++◌, ap, ◌∙◌}
use Rattle.opgen_lanes.proofs.Beginning.{listed}
use Rattle.opgen_lanes.proofs.bank.port_widths.Goals as goal

pub loop-port-preserved : goal.loop-port-preserved
loop-port-preserved c =
    let x = c.port-item.result in
    c.in_ok-push.ensures.items
    ∙ ap (λ ws. ws ++ x.width ∷ []) c.loop-port.invariant
    ∙ listed (λ x. x.width) c.args.ports.now c.loop-port.port-index x c.loop-port-test.true c.port-item.is
