use Rattle.opgen_graph.proofs.Rounding.{one_made, one_stays, all_seen}
use Rattle.opgen_graph.proofs.ranks.round.Goals as goal
use Rattle.opgen_graph.proofs.ranks.round.Goals.{in-Some+in_ok-push-in-Some, in-None+in_ok-push-in-None}

pub loop-value-preserved : goal.loop-value-preserved
loop-value-preserved c =
    elim c.match-first_adder.branch [
      | in-Some+in_ok-push-in-Some w ↦ rw (w.fresh-is, w.rest-is, w.in_ok-push-in-Some.ensures.items)
          (one_made _ _ _ _ _ _ c.loop-value-test.true w.in-Some.ensures.first.0 w.in-Some.ensures.first.1 c.loop-value.invariant)
      | in-None+in_ok-push-in-None w ↦ rw (w.fresh-is, w.rest-is, w.in_ok-push-in-None.ensures.items) (one_stays _ _ _ _ _ c.loop-value-test.true w.in-None.ensures.none c.loop-value.invariant)
    ]

pub returns : goal.returns
returns c = all_seen _ _ _ _ _ c.loop-value-test.false c.loop-value.invariant
