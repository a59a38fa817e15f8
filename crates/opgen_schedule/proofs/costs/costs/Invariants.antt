use Rattle.std.proofs.Common.{◌≡◌, ◌++◌, length, drop}
use Rattle.opgen_schedule.specs.Moves.{costs_from}
use Rattle.opgen_schedule.proofs.costs.costs.Given as goal

abbrev pub invariant-graph : goal.invariant-graph
invariant-graph l = record {
  count : length l.found.items ≡ l.place;
  rest : l.found.items ++ costs_from l.cost l.counts.items l.place (drop l.place l.graph) ≡ costs_from l.cost l.counts.items 0 l.graph;
}
