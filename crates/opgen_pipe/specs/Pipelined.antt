-- The design of a net at a schedule: node i is signal s<i>, and its copies are the registers s<i>_1, s<i>_2 and so on.
use Rattle.std.specs.Prelude.{ℕ, ◌+◌, negsuc, Bool, not, ◌&&◌, if◌then◌else◌, List, [], ◌∷◌, ◌++◌, length, map, filter, codes, decimal, Option, Some, None}
use Rattle.std.specs.List.{list_any, range_with_len}
use Rattle.opgen_net.specs.declared.node.Node.{Node}
use Rattle.opgen_net.specs.declared.node.Node.TheVariants as node
use Rattle.opgen_net.specs.declared.net.Net.{Net}
use Rattle.opgen_net.specs.declared.net.Output as net_output
use Rattle.opgen_design.specs.declared.design.Design.{Design}
use Rattle.opgen_design.specs.declared.design.Port.{Port}
use Rattle.opgen_design.specs.declared.design.Signal.{Signal}
use Rattle.opgen_design.specs.declared.design.Driver.{Driver}
use Rattle.opgen_design.specs.declared.design.Driver.TheVariants.{Assign, Choice, Table, Register, Output}
use Rattle.opgen_design.specs.Order.{is_register}
use Rattle.opgen_design.specs.Tree.{name, bits, port}
use Rattle.opgen_net.specs.Flow.{flow}
use Rattle.opgen_net.specs.Made.{signal_name, addressed, last_row, input_port, output_port}
use Rattle.opgen_schedule.specs.Schedule.{Schedule}
use Rattle.opgen_pipe.specs.declared.standing.Standing.{Standing}
use Rattle.opgen_pipe.specs.Copies.{net_latency}
use Rattle.opgen_design.specs.Run.{enable_inputs}
use Rattle.opgen_pipe.specs.Standings.{standings, standing_at}
use Rattle.opgen_pipe.specs.Reading.{read_in, slice_in, tree_in}

-- items of each node by its number, from a number on, joined
abbrev pub all_of : {X : Type 0} → (ℕ → Node → List X) → ℕ → List Node → List X
all_of f i [] = []
all_of f i (n ∷ ns) = f i n ++ all_of f (i + 1) ns

-- the word that a node has when all inputs are zeros
abbrev pub zero_word : Net → ℕ → List Bool
zero_word net i = flow net.nodes [] i (negsuc 0)

-- a delay is a register, which begins with its node's word of zero inputs
abbrev pub initial_of : (zero : List Bool) → Node → Option (List Bool)
initial_of zero (node.Delay of) = Some zero
initial_of zero _ = None

-- a node's own signal
abbrev pub own_signal : (zero : List Bool) → Standing → ℕ → Node → Signal
own_signal zero o i n = record { name = signal_name i; width = o.width; initial = initial_of zero n }

abbrev pub copy_name : (i copy : ℕ) → List ℕ
copy_name i k = signal_name i ++ codes "_" ++ decimal k

-- a copy is a register too
abbrev pub copy_signal : (zero : List Bool) → Standing → (i copy : ℕ) → Signal
copy_signal zero o i k = record { name = copy_name i k; width = o.width; initial = Some zero }

-- the signals of a node: its own, and then its copies
abbrev pub node_signals : Net → List Standing → ℕ → Node → List Signal
node_signals net ps i n =
    let o = standing_at ps i in own_signal (zero_word net i) o i n ∷ map (copy_signal (zero_word net i) o i) (range_with_len 1 o.copies)

-- what gives a node's own signal its words, where the ports of the inputs begin at a place
abbrev pub own_driver : (first : ℕ) → List Standing → Standing → Node → Driver
own_driver first ps o (node.Input place w) = Assign o.signal (port (first + place))
own_driver first ps o (node.Constant w) = Assign o.signal (bits w)
own_driver first ps o (node.Cells class w e) = Assign o.signal (tree_in ps o.slot.cycle e)
own_driver first ps o (node.Choice on one other) =
    Choice o.signal (name (read_in ps o.slot.cycle on)) (slice_in ps o.slot.cycle one) (slice_in ps o.slot.cycle other)
own_driver first ps o (node.Table address rows) =
    Table o.signal (name (read_in ps o.slot.cycle address)) (addressed (standing_at ps address).width 0 rows) (last_row rows)
own_driver first ps o (node.Delay of) = Register o.signal (name (read_in ps o.slot.cycle of))

-- a copy has what the copy before it had one cycle before
abbrev pub copy_register : Standing → (copy : ℕ) → Driver
copy_register o k = Register (o.signal + 1 + k) (name (o.signal + k))

-- the drivers of a node's signals, in their order
abbrev pub node_drivers : (first : ℕ) → List Standing → ℕ → Node → List Driver
node_drivers first ps i n =
    let o = standing_at ps i in own_driver first ps o n ∷ map (copy_register o) (range_with_len 0 o.copies)

-- an output reads its slice in the cycle of the latency
abbrev pub output_drivers : List Standing → (latency place : ℕ) → List net_output.Output → List Driver
output_drivers ps l place [] = []
output_drivers ps l place (o ∷ os) = Output place (slice_in ps l o.from) ∷ output_drivers ps l (place + 1) os

-- the enable's port, where there is one, then those of the net's inputs and outputs
abbrev pub ports_of : (enable : Bool) → Net → List Port
ports_of enable net = map input_port (enable_inputs enable ++ net.inputs) ++ map output_port net.outputs

-- first what is no register, then the registers, then the outputs
abbrev pub drivers_of : (enable : Bool) → Net → Schedule → List Driver
drivers_of enable net s =
    let first = length (enable_inputs enable) in
    let ps = standings net s in
    let nodes = all_of (node_drivers first ps) 0 net.nodes in
    filter (λ k. not (is_register k)) nodes ++ filter is_register nodes ++ output_drivers ps (net_latency net s)
    (first + length net.inputs) net.outputs

-- the port of the enable lets the registers move, where there is one
abbrev pub enable_of : (enable : Bool) → List Driver → Option ℕ
enable_of enable drivers = if enable && list_any is_register drivers then Some 0 else None

abbrev pub design_of : (name : List ℕ) → (enable : Bool) → Net → Schedule → Design
design_of called enable net s = record {
  name = called;
  ports = ports_of enable net;
  signals = all_of (node_signals net (standings net s)) 0 net.nodes;
  drivers = drivers_of enable net s;
  enable = enable_of enable (drivers_of enable net s);
}
