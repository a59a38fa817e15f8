use Rattle.std.proofs.Common.{All, length}
use Rattle.std.specs.List.Sorted.{IsNonDecreasing}
use Rattle.opgen_graph.specs.Adders.{IsTerm}
use Rattle.opgen_graph.proofs.Reaching.{Ranking}
use Rattle.opgen_graph.proofs.ranks.ranks.Given as goal

abbrev pub invariant-rounds : goal.invariant-rounds
invariant-rounds l = record {
  terms : All IsTerm l.left.items × All IsTerm l.placed.items;
  increasing : IsNonDecreasing l.placed.items;
  ranking : Ranking l.set l.placed.items l.left.items l.adders.items;
}

abbrev pub decreases-rounds : goal.decreases-rounds
decreases-rounds l = length l.left.items
