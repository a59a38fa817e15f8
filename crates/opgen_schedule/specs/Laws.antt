-- What a schedule that fits a period may promise: its latency is the least, and each path ends in time.
use Rattle.std.specs.Prelude.{ℕ, ◌≡◌, ◌+◌, ◌≤◌, List, slice_get, slice_index, Some, Contains}
use Rattle.opgen_net.specs.declared.net.Output.{Output}
use Rattle.opgen_net.specs.declared.node.Node.{Node}
use Rattle.opgen_net.specs.declared.node.Node.TheVariants.{Cells, Choice, Table}
use Rattle.opgen_schedule.specs.Reads.{reads_of}
use Rattle.opgen_schedule.specs.Schedule.{Schedule, Fits, latency}

-- no schedule that fits has a smaller latency, whatever the outputs read
abbrev pub IsLeast : List Node → (delays : List ℕ) → (setup period : ℕ) → Schedule → Type 0
IsLeast nodes delays setup period s = (other : Schedule) → Fits nodes delays setup period other
    → (outputs : List Output) → latency nodes s outputs ≤ latency nodes other outputs

-- nodes of cells, which a path goes through
abbrev pub IsOfCells : Node → Type 0
IsOfCells (Cells class w e) = Unit {0}
IsOfCells (Choice on one other) = Unit {0}
IsOfCells (Table address rows) = Unit {0}
IsOfCells _ = ⊥

-- a path of nodes of cells, each read by the next one in its cycle, that ends in a node: its delay is the sum of theirs
pub data Path (nodes : List Node) (delays : List ℕ) (s : Schedule) : (last sum : ℕ) → Type 0 where
  alone : (i : ℕ) (n : Node) → slice_get nodes i ≡ Some n → IsOfCells n → Path nodes delays s i (slice_index delays i)
  longer : (j sum i : ℕ) (n : Node) → Path nodes delays s j sum → slice_get nodes i ≡ Some n → IsOfCells n → Contains (reads_of n) j
      → (s j).cycle ≡ (s i).cycle → Path nodes delays s i (sum + slice_index delays i)

-- a node has its word after the delay of each path that ends in it, and its setup before the end of the cycle
abbrev pub PathsEnd : List Node → (delays : List ℕ) → (setup period : ℕ) → Schedule → Type 0
PathsEnd nodes delays setup period s = (i sum : ℕ) → Path nodes delays s i sum → (sum ≤ (s i).time) × ((s i).time + setup ≤ period)

-- so it is in every schedule that fits
abbrev pub PathsFit : Type 0
PathsFit = (nodes : List Node) (delays : List ℕ) (setup period : ℕ) (s : Schedule) → Fits nodes delays setup period s
    → PathsEnd nodes delays setup period s
