use Rattle.std.proofs.Common.{below_more}
use Rattle.opgen_graph.proofs.OddParts.{refuted, with_none}
use Rattle.opgen_graph.proofs.makes.makes_with.Goals as goal

pub loop-v-preserved : goal.loop-v-preserved
loop-v-preserved c = below_more _ _ c.loop-v.invariant (λ e. refuted (c.if-makes.ensures.1 e))

pub returns : goal.returns
returns c = (λ z. absurd (refuted z), λ (v, cv, e). absurd (with_none _ _ _ _ c.loop-v-test.false c.loop-v.invariant v cv e))
