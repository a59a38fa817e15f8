use Rattle.std.proofs.Common.{◌≡◌, length, drop}
use Rattle.opgen_schedule.specs.Moves.{timed, timed_on}
use Rattle.opgen_schedule.proofs.timed.timed_slots.Given as goal

abbrev pub invariant-graph : goal.invariant-graph
invariant-graph l = record {
  count : length l.slots.items ≡ l.place;
  rest : timed_on l.cycles l.slots.items (drop l.place l.graph) ≡ timed l.graph l.cycles;
}
