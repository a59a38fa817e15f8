-- The cells of a net's nodes, and their delays.
use Rattle.std.specs.Prelude.{ℕ, ◌+◌, List, ◌++◌, map, replicate, slice_index, Option, Some, None, option_to_list}
use Rattle.opgen_net.specs.declared.cell.Cell.{Cell}
use Rattle.opgen_net.specs.declared.cell.Class.TheVariants as class
use Rattle.opgen_net.specs.declared.net.Net.{Net}
use Rattle.opgen_net.specs.declared.node.Node.{Node}
use Rattle.opgen_net.specs.declared.node.Node.TheVariants.{Input, Constant, Cells, Choice, Table, Delay}
use Rattle.opgen_net.specs.Valid.{slice_width, widths}
use Rattle.opgen_schedule.specs.Schedule.{Schedule, greatest}
use Rattle.opgen_target.specs.Delays.{Delays, setup}
use Rattle.opgen_pipe.specs.Copies.{copies}
use Rattle.opgen_pipe.specs.Pipelined.{all_of}

-- a register of so many bits
abbrev pub register_of : ℕ → Cell
register_of w = record { class = class.Register; width = w }

-- the cell of a node; inputs and constants have none
abbrev pub cell_of : List ℕ → Node → Option Cell
cell_of ws (Input port w) = None
cell_of ws (Constant w) = None
cell_of ws (Cells class w e) = Some (record { class = class; width = w })
cell_of ws (Choice on one other) = Some (record { class = class.Choice; width = slice_width one })
cell_of ws (Table address rows) = Some (record { class = class.Table; width = slice_index ws address })
cell_of ws (Delay of) = Some (register_of (slice_index ws of))

-- how long after its operands a node has its word; a delay has it as a cycle begins
abbrev pub node_delay : Delays → List ℕ → Node → ℕ
node_delay table ws (Input port w) = 0
node_delay table ws (Constant w) = 0
node_delay table ws (Delay of) = 0
node_delay table ws (Cells class w e) = table class w
node_delay table ws (Choice on one other) = table class.Choice (slice_width one)
node_delay table ws (Table address rows) = table class.Table (slice_index ws address)

abbrev pub net_delays : Delays → Net → List ℕ
net_delays table net = map (node_delay table (widths net.nodes)) net.nodes

-- the shortest period for which there is a schedule: the greatest delay and the setup
abbrev pub need : Delays → Net → ℕ
need table net = greatest (net_delays table net) + setup table

-- the cells of a node's signals: its own, and a register for each copy
abbrev pub node_cells : List ℕ → (count : ℕ → ℕ) → ℕ → Node → List Cell
node_cells ws count i n = option_to_list (cell_of ws n) ++ replicate (count i) (register_of (slice_index ws i))

abbrev pub design_cells : Net → Schedule → List Cell
design_cells net s = all_of (node_cells (widths net.nodes) (copies net s)) 0 net.nodes
