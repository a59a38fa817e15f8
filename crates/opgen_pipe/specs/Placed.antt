-- The schedule of a net by the way in which it is placed: each node as early as it may stand, or few bits of registers.
use Rattle.std.specs.Prelude.{ℕ, zero, suc, ◌+◌, ◌-◌, ◌*◌, ◌&&◌, Bool, List, length, min, nat_lt, nat_le, if◌then◌else◌, replicate, slice_index, ◌≡◌, ◌≤◌, All}
use Rattle.opgen_design.specs.declared.design.TheConstants.{MAX_SIGNALS}
use Rattle.opgen_net.specs.declared.net.Net.{Net}
use Rattle.opgen_net.specs.Valid.{widths}
use Rattle.opgen_schedule.specs.declared.frame.Frame.{Frame}
use Rattle.opgen_schedule.specs.declared.slot.Slot.{Slot}
use Rattle.opgen_schedule.specs.Fitting.{does_fit}
use Rattle.opgen_schedule.specs.Graph.{graph_of}
use Rattle.opgen_schedule.specs.Moves.{cycles_of, moved_back, moved_later, output_reads, timed}
use Rattle.opgen_schedule.specs.Schedule.{Schedule}
use Rattle.opgen_schedule.specs.Stage.{slot_at, stage}
use Rattle.opgen_pipe.specs.declared.fewest.Choice.{Choice}
use Rattle.opgen_pipe.specs.declared.placing.Placing.{Placing}
use Rattle.opgen_pipe.specs.declared.placing.Placing.TheVariants.{Earliest, Few}
use Rattle.opgen_pipe.specs.Copies.{copies, net_latency, signal_count}

-- the bits of the registers of the nodes before one: of each as many as it has copies, of its width
abbrev pub bits_before : (widths : List ℕ) → (copies : ℕ → ℕ) → ℕ → ℕ
bits_before ws count zero = 0
bits_before ws count (suc i) = bits_before ws count i + slice_index ws i * count i

-- the bits of the registers that a schedule asks for
abbrev pub register_bits : Net → Schedule → ℕ
register_bits net s = bits_before (widths net.nodes) (copies net s) (length net.nodes)

-- a net as the proposals see it, with the latency of its first schedule
abbrev pub frame_of : (delays : List ℕ) → (room latency : ℕ) → Net → Frame
frame_of delays room latency net = record {
  graph = graph_of delays (widths net.nodes) net.nodes;
  lasts = output_reads latency (replicate (length net.nodes) 0) net.outputs;
  latency = latency;
  room = room;
}

-- a proposal may be taken where it is a schedule that fits, of no greater latency and of few enough signals
abbrev pub may_take : Frame → Net → List Slot → Bool
may_take f net ps =
    does_fit f.room f.graph ps && (nat_le (net_latency net (slot_at ps)) f.latency && nat_le (signal_count net (slot_at ps)) MAX_SIGNALS)

-- of two schedules the second, where it may be taken and has fewer bits of registers
abbrev pub fewer : Frame → Net → (best proposed : List Slot) → List Slot
fewer f net best ps =
    if may_take f net ps && nat_lt (register_bits net (slot_at ps)) (register_bits net (slot_at best)) then ps else best

-- of a first schedule and the two proposals in the cycles that are made from its own, the one with the fewest
abbrev pub fewest : Frame → Net → List Slot → List Slot
fewest f net first =
    fewer f net (fewer f net first (timed f.graph (moved_later f (cycles_of first)))) (timed f.graph (moved_back f (cycles_of first)))

-- the slots of a net: those of one pass, or of it and the proposals those with the fewest bits of registers
abbrev pub slots_placed : Placing → (delays : List ℕ) → (setup period : ℕ) → Net → List Slot
slots_placed Earliest delays setup period net = stage delays setup period net.nodes
slots_placed Few delays setup period net =
    let first = stage delays setup period net.nodes in
    fewest (frame_of delays (period - setup) (net_latency net (slot_at first)) net) net first

-- slots in early cycles with the number of their bits of registers, or the greatest number where there are more
pub record IsMeasured (net : Net) (c : Choice) : Type 0 where
  pub one_each : length c.slots.items ≡ length net.nodes
  pub early : All (λ p. p.cycle ≤ length net.nodes) c.slots.items
  pub bits : c.bits ≡ min (register_bits net (slot_at c.slots.items)) 18446744073709551615
