use Rattle.std.proofs.Common.{below_more, arith, sym, subst}
use Rattle.opgen_graph.specs.Reach.{Among}
use Rattle.opgen_graph.proofs.Members.{read}
use Rattle.opgen_graph.proofs.OddParts.{refuted}
use Rattle.opgen_search.proofs.node.next_made.Goals as goal

pub loop-place-preserved : goal.loop-place-preserved
loop-place-preserved c = below_more _ _ c.loop-place.invariant (λ a. refuted (c.if-makes_among.ensures.1 a))

pub returns-clause-none : goal.returns-clause-none
returns-clause-none c = λ x i a. c.loop-place.invariant i.0 (omega (arith, i.1, c.loop-place-test.false))
    (subst (Among c.args.placed.now) (sym (read c.args.left.now x i)) a)
