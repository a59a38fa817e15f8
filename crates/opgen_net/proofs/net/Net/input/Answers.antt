use Rattle.opgen_net.specs.declared.node.Node.TheVariants.{Input}
use Rattle.opgen_net.proofs.Appending.{flow-append_before, valid-input}
use Rattle.opgen_net.proofs.net.Net.input.Goals as goal

pub returns-in-Ok-clause-valid : goal.returns-in-Ok-clause-valid
returns-in-Ok-clause-valid c =
    rw (c.in-Ok.ensures.ok, c.in_ok-push.ensures.ok, c.in_ok-name.ensures, c.len-port.ensures)
    (valid-input c.args.self.now c.args.name.now c.args.width c.requires.net c.requires.width)

pub returns-in-Ok-clause-flow : goal.returns-in-Ok-clause-flow
returns-in-Ok-clause-flow c =
    rw c.in-Ok.ensures.ok (flow-append_before c.args.self.now.nodes (Input c.len-port.result c.args.width))
