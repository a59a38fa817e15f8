use Rattle.std.proofs.Common.{length, ap, ◌∙◌}
use Rattle.std.proofs.lemmas.List.{length-map}
use Rattle.opgen_net.specs.Valid.{widths}
use Rattle.opgen_pipe.specs.Cells.{node_delay}
use Rattle.opgen_pipe.proofs.layout.lay_out.Goals as goal

pub lay_out_for-requires-clause-delays : goal.lay_out_for-requires-clause-delays
lay_out_for-requires-clause-delays g c =
    let nodes = c.args.net.now.nodes in
    let table = (goal.Target-dyn g (c.args.target.now.vtable, c.args.target.now.value)).delays c.args.target.now.value in
    ap length (c.deref.ensures.value ∙ c.in_ok-delays.ensures) ∙ length-map nodes (node_delay table (widths nodes))

pub returns-clause-layout : goal.returns-clause-layout
returns-clause-layout g c = c.lay_out_for.ensures.layout

pub returns-clause-outcome : goal.returns-clause-outcome
returns-clause-outcome g c =
    let table = (goal.Target-dyn g (c.args.target.now.vtable, c.args.target.now.value)).delays c.args.target.now.value in
    c.lay_out_for.ensures.outcome table (c.deref.ensures.value ∙ c.in_ok-delays.ensures) c.setup_time.ensures
