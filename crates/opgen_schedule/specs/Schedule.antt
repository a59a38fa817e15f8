-- When a schedule of a net fits a period, as inequalities: each node has a clock cycle, and a time in picoseconds within it.
use Rattle.std.specs.Prelude.{ℕ, ◌≡◌, ◌+◌, ◌≤◌, false, List, [], ◌∷◌, All, length, max, if◌then◌else◌, slice_get, slice_index, Some}
use Rattle.opgen_net.specs.declared.net.Output.{Output}
use Rattle.opgen_net.specs.declared.node.Node.{Node}
use Rattle.opgen_net.specs.declared.node.Node.TheVariants.{Input, Constant, Delay}
use Rattle.opgen_schedule.specs.declared.slot.Slot.{Slot}
use Rattle.opgen_schedule.specs.Reads.{reads_of, is_constant_at}

-- the slot of each node
abbrev pub Schedule : Type 0
Schedule = ℕ → Slot

-- an operand is there in time: in no later cycle, and where it is the same, so long before
abbrev pub InTime : Schedule → (delay i j : ℕ) → Type 0
InTime s delay i j = ((s j).cycle ≤ (s i).cycle) × ((s j).cycle ≡ (s i).cycle → (s j).time + delay ≤ (s i).time)

-- a node of cells has its word after its delay, after all its operands but constants, and its setup before the end of the cycle
pub record CellFits (nodes : List Node) (setup period : ℕ) (s : Schedule) (delay i : ℕ) (reads : List ℕ) : Type 0 where
  pub own : delay ≤ (s i).time
  pub ends : (s i).time + setup ≤ period
  pub operands : All (λ j. is_constant_at nodes j ≡ false → InTime s delay i j) reads

abbrev pub FitsAt : List Node → (setup period : ℕ) → Schedule → (delay i : ℕ) → Node → Type 0
FitsAt nodes setup period s delay i (Input port w) = ((s i).cycle ≡ 0) × ((s i).time ≡ 0)
FitsAt nodes setup period s delay i (Constant w) = Unit {0}
FitsAt nodes setup period s delay i (Delay of) = ((s i).time ≡ 0) × (is_constant_at nodes of ≡ false → (s of).cycle ≤ (s i).cycle)
FitsAt nodes setup period s delay i n = CellFits nodes setup period s delay i (reads_of n)

-- a schedule fits a period over nodes of these delays, one for each node
pub record Fits (nodes : List Node) (delays : List ℕ) (setup period : ℕ) (s : Schedule) : Type 0 where
  pub a_delay_each : length delays ≡ length nodes
  pub setup_fits : setup ≤ period
  pub nodes_fit : (i : ℕ) (n : Node) → slice_get nodes i ≡ Some n → FitsAt nodes setup period s (slice_index delays i) i n

-- the greatest cycle of an output's node, constants being left aside
abbrev pub latency : List Node → Schedule → List Output → ℕ
latency nodes s [] = 0
latency nodes s (o ∷ os) = max (if is_constant_at nodes o.from.node then 0 else (s o.from.node).cycle) (latency nodes s os)

-- the greatest time of a node
abbrev pub greatest_time : List Slot → ℕ
greatest_time [] = 0
greatest_time (p ∷ ps) = max p.time (greatest_time ps)

-- the greatest of some delays
abbrev pub greatest : List ℕ → ℕ
greatest [] = 0
greatest (d ∷ ds) = max d (greatest ds)
