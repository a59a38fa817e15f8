use Rattle.std.proofs.Common.{subst, arith}
use Rattle.opgen_net.specs.Valid.{widths}
use Rattle.opgen_net.specs.WordRule.{IsThere}
use Rattle.opgen_net.proofs.FlowLaws.{index_within, length-widths}
use Rattle.opgen_compress.proofs.adders.operand.Goals as goal

pub width_of-requires-clause-there : goal.width_of-requires-clause-there
width_of-requires-clause-there c =
    let nodes = c.args.net.now.nodes in
    let there = subst (IsThere (widths nodes)) c.in-Of.is c.requires.there in
    omega (arith, index_within (widths nodes) c.in-Of.node c.in-Of.index there, length-widths nodes)
