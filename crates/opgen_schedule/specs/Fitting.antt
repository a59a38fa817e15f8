-- A test of whether slots of a timing graph are a schedule that fits, in cycles of which there are at most as many as nodes.
use Rattle.std.specs.Prelude.{ℕ, Bool, true, ◌+◌, ◌&&◌, ◌||◌, List, [], ◌∷◌, length, nat_eq, nat_lt, nat_le}
use Rattle.std.specs.List.{list_all}
use Rattle.opgen_schedule.specs.declared.graph.Role.{Role}
use Rattle.opgen_schedule.specs.declared.graph.Role.TheVariants.{Start, Hold, Cell}
use Rattle.opgen_schedule.specs.declared.graph.Vertex.{Vertex}
use Rattle.opgen_schedule.specs.declared.slot.Slot.{Slot}
use Rattle.opgen_schedule.specs.Stage.{slot_at}

-- an operand in one slot is there in time for a node in another that has its word so long after it
abbrev pub comes_first : (delay : ℕ) → Slot → Slot → Bool
comes_first delay q p = nat_lt p.cycle q.cycle || (nat_eq p.cycle q.cycle && nat_le (p.time + delay) q.time)

-- room is the time that a cycle has for cells
abbrev pub fits_as : Role → (room delay : ℕ) → List Slot → Slot → (reads : List ℕ) → Bool
fits_as Start room delay ps q reads = nat_eq q.cycle 0 && nat_eq q.time 0
fits_as Hold room delay ps q reads = nat_eq q.time 0 && list_all (λ j. nat_le (slot_at ps j).cycle q.cycle) reads
fits_as Cell room delay ps q reads =
    nat_le delay q.time && (nat_le q.time room && list_all (λ j. comes_first delay q (slot_at ps j)) reads)

-- vertex i and those after it fit in their slots
abbrev pub all_fit : (room : ℕ) → List Slot → (i : ℕ) → List Vertex → Bool
all_fit room ps i [] = true
all_fit room ps i (v ∷ vs) =
    (nat_le (slot_at ps i).cycle (length ps) && fits_as v.role room v.delay ps (slot_at ps i) v.reads) && all_fit room ps (i + 1) vs

abbrev pub does_fit : (room : ℕ) → List Vertex → List Slot → Bool
does_fit room vs ps = all_fit room ps 0 vs
