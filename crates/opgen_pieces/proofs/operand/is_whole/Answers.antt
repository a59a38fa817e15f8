use Rattle.std.proofs.Common.{arith}
use Rattle.opgen_net.specs.Valid.{widths}
use Rattle.opgen_net.proofs.FlowLaws.{length-widths, index_within}
use Rattle.opgen_net.proofs.FlowWidths.{are_widths}
use Rattle.opgen_pieces.proofs.operand.is_whole.Goals as goal

pub overflow_add-result : goal.overflow_add-result
overflow_add-result c =
    let there = index_within (widths c.args.net.now.nodes) c.args.slice.node c.args.slice.high c.requires.lies.1 in
    let wide = are_widths c.args.net.now.nodes c.requires.net.nodes c.args.slice.node
    (omega (arith, there, length-widths c.args.net.now.nodes)) in
    omega (arith, c.requires.lies.1, wide.1)

pub width_of-requires-clause-there : goal.width_of-requires-clause-there
width_of-requires-clause-there c =
    let there = index_within (widths c.args.net.now.nodes) c.args.slice.node c.args.slice.high c.requires.lies.1 in
    omega (arith, there, length-widths c.args.net.now.nodes)
