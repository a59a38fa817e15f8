use Rattle.std.proofs.Common.{get_or, arith}
use Rattle.std.proofs.lemmas.List.Elements.{Contains-get_or}
use Rattle.opgen_components.proofs.walk.mark_all.Goals as goal

pub index_mut-requires : goal.index_mut-requires
index_mut-requires c =
    let n = c.requires (get_or c.args.nodes.now c.loop-node.node-index 0)
    (Contains-get_or c.args.nodes.now c.loop-node.node-index 0 c.loop-node-test.true) in
    omega (arith, n, c.loop-node.invariant.1, c.loop-node.marks.ok.0)
