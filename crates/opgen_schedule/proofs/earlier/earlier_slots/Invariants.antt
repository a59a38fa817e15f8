use Rattle.std.proofs.Common.{◌≡◌, [], length, drop}
use Rattle.opgen_schedule.specs.Moves.{earlier_on}
use Rattle.opgen_schedule.proofs.earlier.earlier_slots.Given as goal

abbrev pub invariant-graph : goal.invariant-graph
invariant-graph l = record {
  count : length l.slots.items ≡ l.place;
  long : length l.lasts.items ≡ length l.frame.graph;
  rest : earlier_on l.frame.room l.costs l.cycles l.lasts.items l.slots.items (drop l.place l.frame.graph)
      ≡ earlier_on l.frame.room l.costs l.cycles l.frame.lasts [] l.frame.graph;
}
