use Rattle.std.proofs.Common.{[], map, ap, ◌∙◌}
use Rattle.std.proofs.lemmas.List.{take_all}
use Rattle.opgen_pipe.specs.Cells.{node_delay}
use Rattle.opgen_pipe.proofs.CellLaws.{all-wide, node-stands}
use Rattle.opgen_pipe.proofs.Steps.{mapped-more}
use Rattle.opgen_pipe.proofs.cells.net_delays.Goals as goal

pub node_delay-requires-clause-widths : goal.node_delay-requires-clause-widths
node_delay-requires-clause-widths g c = all-wide c.args.net.now c.requires.valid c.args.widths.now c.requires.widths

pub node_delay-requires-clause-stands : goal.node_delay-requires-clause-stands
node_delay-requires-clause-stands g c =
    node-stands c.args.net.now c.requires.valid c.args.widths.now c.requires.widths c.as_slice-nodes.result.now c.as_slice-nodes.ensures
    c.nodes.node-index c.node-item.result c.nodes-test.true c.node-item.is

pub nodes-preserved : goal.nodes-preserved
nodes-preserved g c =
    let table = (goal.Target-dyn g (c.args.target.now.vtable, c.args.target.now.value)).delays c.args.target.now.value in
    mapped-more (node_delay table c.args.widths.now) c.as_slice-nodes.result.now c.nodes.node-index c.node-item.result []
    c.nodes.delays.items c.push.new.self.items c.node_delay.result c.nodes-test.true c.node-item.is c.node_delay.ensures
    c.nodes.invariant c.in_ok-push.ensures.items

pub returns : goal.returns
returns g c =
    let table = (goal.Target-dyn g (c.args.target.now.vtable, c.args.target.now.value)).delays c.args.target.now.value in
    c.nodes.invariant
    ∙ ap (map (node_delay table c.args.widths.now))
    (take_all c.nodes.node-index c.as_slice-nodes.result.now c.nodes-test.false ∙ c.as_slice-nodes.ensures)
    ∙ ap (λ ws. map (node_delay table ws) c.args.net.now.nodes) c.requires.widths
