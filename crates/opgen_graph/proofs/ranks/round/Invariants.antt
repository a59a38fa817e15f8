use Rattle.opgen_graph.proofs.Rounding.{RoundUpTo}
use Rattle.opgen_graph.proofs.ranks.round.Given as goal

abbrev pub invariant-loop-value : goal.invariant-loop-value
invariant-loop-value l = RoundUpTo l.placed l.left l.value-index l.fresh.items l.rest.items
