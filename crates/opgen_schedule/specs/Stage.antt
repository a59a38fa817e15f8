-- The schedule of one pass: each node is as early as its operands allow, and at the start of the next cycle if theirs has no room.
use Rattle.std.specs.Prelude.{ℕ, ◌+◌, List, [], ◌∷◌, ◌++◌, length, nat_lt, nat_le, if◌then◌else◌, slice_index, slice_index_or}
use Rattle.opgen_net.specs.declared.node.Node.{Node}
use Rattle.opgen_net.specs.declared.node.Node.TheVariants.{Input, Constant, Delay}
use Rattle.opgen_schedule.specs.declared.slot.Slot.{Slot}
use Rattle.opgen_schedule.specs.Reads.{reads_of}
use Rattle.opgen_schedule.specs.Schedule.{Schedule}

abbrev pub start : Slot
start = record { cycle = 0; time = 0 }

-- the slots of a list as a schedule
abbrev pub slot_at : List Slot → Schedule
slot_at ps j = slice_index_or ps j start

-- the later of two slots
abbrev pub later : Slot → Slot → Slot
later p q = if nat_lt p.cycle q.cycle then q else (if nat_lt q.cycle p.cycle then p else (if nat_lt p.time q.time then q else p))

-- the latest of a slot and those of some nodes: the greatest cycle, and the greatest time in that cycle
abbrev pub latest : Slot → List Slot → List ℕ → Slot
latest p ps [] = p
latest p ps (j ∷ js) = latest (later p (slot_at ps j)) ps js

-- after operands of which the latest stands here: in its cycle, or where there is no room in the next one
abbrev pub after : (setup period delay : ℕ) → Slot → Slot
after setup period delay p =
    if nat_le (p.time + delay + setup) period then record { cycle = p.cycle; time = p.time + delay }
    else record { cycle = p.cycle + 1; time = delay }

-- inputs and constants stand at the start, and a delay at the start of its operand's cycle
abbrev pub slot_of : (setup period : ℕ) → List Slot → (delay : ℕ) → Node → Slot
slot_of setup period ps delay (Input port w) = start
slot_of setup period ps delay (Constant w) = start
slot_of setup period ps delay (Delay of) = record { cycle = (slot_at ps of).cycle; time = 0 }
slot_of setup period ps delay n = after setup period delay (latest start ps (reads_of n))

-- the slots of further nodes, after those of the nodes before them
abbrev pub slots_on : (delays : List ℕ) → (setup period : ℕ) → List Slot → List Node → List Slot
slots_on delays setup period ps [] = ps
slots_on delays setup period ps (n ∷ ns) =
    slots_on delays setup period (ps ++ slot_of setup period ps (slice_index delays (length ps)) n ∷ []) ns

-- the slot of each node, over the delays of the nodes
abbrev pub stage : (delays : List ℕ) → (setup period : ℕ) → List Node → List Slot
stage delays setup period nodes = slots_on delays setup period [] nodes
