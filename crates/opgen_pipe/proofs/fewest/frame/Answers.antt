use Rattle.std.proofs.Common.{length, sym, ap, ◌∙◌}
use Rattle.opgen_net.proofs.FlowLaws.{length-widths}
use Rattle.opgen_pipe.proofs.There.{outputs_there}
use Rattle.opgen_pipe.proofs.fewest.frame.Goals as goal

pub timing_graph-requires-clause-widths : goal.timing_graph-requires-clause-widths
timing_graph-requires-clause-widths c =
    ap length c.requires.widths ∙ length-widths c.args.net.now.nodes ∙ sym (ap length c.as_slice-nodes.ensures)

pub output_reads-requires : goal.output_reads-requires
output_reads-requires c =
    outputs_there c.args.net.now c.requires.valid c.as_slice-nodes.result.now c.as_slice-nodes.ensures c.as_slice.result.now
    c.as_slice.ensures
