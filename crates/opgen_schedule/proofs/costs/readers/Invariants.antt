use Rattle.std.proofs.Common.{◌≡◌, length, drop}
use Rattle.std.specs.List.{fold}
use Rattle.opgen_schedule.specs.declared.graph.Vertex.{Vertex}
use Rattle.opgen_schedule.specs.Moves.{count_reader, readers_of}
use Rattle.opgen_schedule.proofs.costs.readers.Given as goal

abbrev pub invariant-graph : goal.invariant-graph
invariant-graph l = record {
  long : length l.counts.items ≡ length l.graph;
  rest : fold (λ counts (v : Vertex). fold count_reader counts v.reads) l.counts.items (drop l.vertex-index l.graph) ≡ readers_of l.graph;
}
