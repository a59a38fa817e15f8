use Rattle.std.proofs.Common.{below_more}
use Rattle.opgen_graph.proofs.OddParts.{refuted}
use Rattle.opgen_search.proofs.NodeLaws.{no_help, none_helps, stuck_more}
use Rattle.opgen_search.proofs.node.helps.Goals as goal

pub loop-n-preserved : goal.loop-n-preserved
loop-n-preserved c =
    below_more _ _ c.loop-n.invariant (no_help _ _ _ (λ h. refuted (c.if-makes_with.ensures.1 h))
    (λ h. refuted (c.if-makes_with-2.ensures.1 h)))

pub returns : goal.returns
returns c = λ _. stuck_more _ _ _ c.requires.stuck (none_helps _ _ _ _ c.loop-n-test.false c.loop-n.invariant)
