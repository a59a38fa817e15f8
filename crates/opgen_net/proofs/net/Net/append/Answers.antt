use Rattle.opgen_net.proofs.Appending.{flow-append_before, valid-append}
use Rattle.opgen_net.proofs.net.Net.append.Goals as goal

pub returns-clause-valid : goal.returns-clause-valid
returns-clause-valid c =
    rw c.in_ok-push.ensures.ok (valid-append c.args.self.now c.args.node c.requires.net c.requires.stands c.requires.no_input)

pub returns-clause-flow : goal.returns-clause-flow
returns-clause-flow c = rw c.in_ok-push.ensures.ok (flow-append_before c.args.self.now.nodes c.args.node)
