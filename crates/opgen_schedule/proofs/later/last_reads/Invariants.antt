use Rattle.std.proofs.Common.{◌≡◌, length, drop}
use Rattle.opgen_schedule.specs.Moves.{lasts_on}
use Rattle.opgen_schedule.proofs.later.last_reads.Given as goal

abbrev pub invariant-graph : goal.invariant-graph
invariant-graph l = record {
  long : length l.lasts.items ≡ length l.frame.graph;
  rest : lasts_on l.cycles l.lasts.items l.place (drop l.place l.frame.graph) ≡ lasts_on l.cycles l.frame.lasts 0 l.frame.graph;
}
