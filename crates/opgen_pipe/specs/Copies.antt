-- How many copies each node needs at a schedule; each copy is a register that has the node's word one cycle later than the one
-- before.
use Rattle.std.specs.Prelude.{ℕ, zero, suc, ◌+◌, ◌-◌, List, [], ◌∷◌, length, map, max, nat_eq, if◌then◌else◌}
use Rattle.opgen_net.specs.declared.net.Net.{Net}
use Rattle.opgen_net.specs.declared.node.Node.{Node}
use Rattle.opgen_schedule.specs.Reads.{reads_of, is_constant_at}
use Rattle.opgen_schedule.specs.Schedule.{Schedule, latency}

-- the copy of node j that is read in a cycle by what reads these nodes: that of the distance between the cycles; 0 where j is not among them
abbrev pub copy_read : Schedule → (cycle j : ℕ) → List ℕ → ℕ
copy_read s c j [] = 0
copy_read s c j (k ∷ ks) = max (if nat_eq k j then c - (s j).cycle else 0) (copy_read s c j ks)

-- the greatest copy of node j that nodes read, from node i on
abbrev pub copy_read_by : Schedule → (i j : ℕ) → List Node → ℕ
copy_read_by s i j [] = 0
copy_read_by s i j (n ∷ ns) = max (copy_read s (s i).cycle j (reads_of n)) (copy_read_by s (i + 1) j ns)

-- what the outputs read, in the cycle of the latency
abbrev pub output_nodes : Net → List ℕ
output_nodes net = map (λ o. o.from.node) net.outputs

abbrev pub net_latency : Net → Schedule → ℕ
net_latency net s = latency net.nodes s net.outputs

-- a node has as many copies as the greatest that a node or an output reads; a constant has none, and its own signal is read in every cycle
abbrev pub copies : Net → Schedule → ℕ → ℕ
copies net s j =
    if is_constant_at net.nodes j then 0
    else max (copy_read_by s 0 j net.nodes) (copy_read s (net_latency net s) j (output_nodes net))

-- the number of signals of the nodes before one: each has its own and those of its copies
abbrev pub signals_before : (copies : ℕ → ℕ) → ℕ → ℕ
signals_before count zero = 0
signals_before count (suc i) = signals_before count i + 1 + count i

-- the number of signals of a net's design
abbrev pub signal_count : Net → Schedule → ℕ
signal_count net s = signals_before (copies net s) (length net.nodes)

-- the signal of a copy of a node; copy 0 is the node's own signal
abbrev pub signal_of : Net → Schedule → (i copy : ℕ) → ℕ
signal_of net s i copy = signals_before (copies net s) i + copy
