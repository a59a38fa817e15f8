use Rattle.std.proofs.Common.{◌≡◌, ◌++◌, drop}
use Rattle.std.specs.Prelude.{slice_index}
use Rattle.opgen_net.specs.Made.{each_node}
use Rattle.opgen_schedule.specs.Graph.{graph_of, vertex_of}
use Rattle.opgen_schedule.proofs.graph.timing_graph.Given as goal

abbrev pub invariant-nodes : goal.invariant-nodes
invariant-nodes l = l.vertices
    ++ each_node (λ i n. vertex_of l.nodes (slice_index l.delays i) (slice_index l.widths i) n) l.place (drop l.place l.nodes)
    ≡ graph_of l.delays l.widths l.nodes
