-- The timing graph of a net: of each node its delay, its width, how it stands in a cycle, and the nodes that it reads.
use Rattle.std.specs.Prelude.{ℕ, ◌≡◌, ◌<◌, ◌||◌, List, [], ◌∷◌, ◌++◌, All, nat_eq, if◌then◌else◌, slice_get, slice_index, Some}
use Rattle.std.specs.List.{list_any, fold}
use Rattle.opgen_net.specs.declared.node.Node.{Node}
use Rattle.opgen_net.specs.declared.node.Node.TheVariants.{Input, Constant, Cells, Choice, Table, Delay}
use Rattle.opgen_net.specs.Made.{each_node}
use Rattle.opgen_schedule.specs.declared.graph.Role.{Role}
use Rattle.opgen_schedule.specs.declared.graph.Role.TheVariants.{Start, Hold, Cell}
use Rattle.opgen_schedule.specs.declared.graph.Vertex.{Vertex}
use Rattle.opgen_schedule.specs.Reads.{reads_of, is_constant_at}

abbrev pub role_of : Node → Role
role_of (Input port w) = Start
role_of (Constant w) = Start
role_of (Cells class w e) = Cell
role_of (Choice on one other) = Cell
role_of (Table address rows) = Cell
role_of (Delay of) = Hold

-- nodes with one more, unless it is a constant or among them
abbrev pub with_operand : List Node → List ℕ → ℕ → List ℕ
with_operand nodes found j = if is_constant_at nodes j || list_any (nat_eq j) found then found else found ++ j ∷ []

-- the nodes that a node reads, each once, and no constants
abbrev pub operands : List Node → Node → List ℕ
operands nodes n = fold (with_operand nodes) [] (reads_of n)

abbrev pub vertex_of : List Node → (delay width : ℕ) → Node → Vertex
vertex_of nodes d w n = record { delay = d; width = w; role = role_of n; reads = operands nodes n }

-- a vertex for each node, over the delays and widths of the nodes
abbrev pub graph_of : (delays widths : List ℕ) → List Node → List Vertex
graph_of delays widths nodes = each_node (λ i n. vertex_of nodes (slice_index delays i) (slice_index widths i) n) 0 nodes

-- each vertex reads only vertices before it
abbrev pub IsOrdered : List Vertex → Type 0
IsOrdered vs = (i : ℕ) (v : Vertex) → slice_get vs i ≡ Some v → All (λ j. j < i) v.reads
