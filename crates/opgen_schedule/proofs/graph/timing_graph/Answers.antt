use Rattle.std.proofs.Common.{ℕ, ◌++◌, length, refl, sym, ap, ◌∙◌, arith}
use Rattle.std.specs.Prelude.{slice_index}
use Rattle.std.proofs.lemmas.List.{append-nil, drop_all}
use Rattle.std.proofs.lemmas.Option.{slice_get_read}
use Rattle.opgen_net.specs.declared.node.Node.{Node}
use Rattle.opgen_net.specs.Made.{each_node}
use Rattle.opgen_schedule.specs.declared.graph.Vertex.{Vertex}
use Rattle.opgen_schedule.specs.Graph.{vertex_of}
use Rattle.opgen_schedule.specs.Reads.{reads_of}
use Rattle.opgen_schedule.proofs.Graphs.{graph-ordered, length-each}
use Rattle.opgen_schedule.proofs.Passes.{below}
use Rattle.opgen_schedule.proofs.Reading.{reads-before}
use Rattle.opgen_schedule.proofs.graph.timing_graph.Goals as goal

pub operands-requires : goal.operands-requires
operands-requires c =
    let nodes = c.args.nodes.now in
    let i = c.nodes.place in
    let n = c.index-nodes-place.result in
    below (reads_of n) i (length nodes) (omega (arith, c.nodes-test.true))
    (reads-before nodes c.requires.valid i n (slice_get_read nodes (length nodes) i n refl c.nodes-test.true c.index-nodes-place.is))

pub returns-clause-graph : goal.returns-clause-graph
returns-clause-graph c =
    let delays = c.args.delays.now in
    let widths = c.args.widths.now in
    let nodes = c.args.nodes.now in
    let f : ℕ → Node → Vertex = λ i n. vertex_of nodes (slice_index delays i) (slice_index widths i) n in
    sym (append-nil c.nodes.vertices)
    ∙ ap (λ ns. c.nodes.vertices ++ each_node f c.nodes.place ns) (sym (drop_all c.nodes.place nodes c.nodes-test.false))
    ∙ c.nodes.invariant

pub returns-clause-ordered : goal.returns-clause-ordered
returns-clause-ordered c =
    graph-ordered c.args.nodes.now c.args.delays.now c.args.widths.now c.requires.valid c.nodes.vertices (returns-clause-graph c)

pub returns-clause-one_each : goal.returns-clause-one_each
returns-clause-one_each c =
    let delays = c.args.delays.now in
    let widths = c.args.widths.now in
    let nodes = c.args.nodes.now in
    let f : ℕ → Node → Vertex = λ i n. vertex_of nodes (slice_index delays i) (slice_index widths i) n in
    ap length (returns-clause-graph c) ∙ length-each f 0 nodes
