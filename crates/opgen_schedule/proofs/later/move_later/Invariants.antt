use Rattle.std.proofs.Common.{◌≡◌, ◌≤◌, length}
use Rattle.opgen_schedule.specs.Moves.{later_to}
use Rattle.opgen_schedule.proofs.later.move_later.Given as goal

abbrev pub invariant-graph : goal.invariant-graph
invariant-graph l = record {
  within : l.place ≤ length l.graph;
  rest : later_to l.room l.costs l.graph l.place l.seats l.lasts ≡ later_to l.room l.costs l.graph (length l.graph) l.fn.seats l.fn.lasts;
}

abbrev pub decreases-graph : goal.decreases-graph
decreases-graph l = l.place
