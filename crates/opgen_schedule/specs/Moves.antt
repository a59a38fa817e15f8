-- Proposals of cycles for few registers: from the schedule of one pass nodes go to later cycles, and from the latest cycles to earlier
-- ones, node by node, where what they read and their own words have no more bits to keep.
use Rattle.std.specs.Prelude.{ℕ, zero, suc, Bool, ◌+◌, ◌-◌, ◌*◌, ◌/◌, ◌&&◌, List, [], ◌∷◌, ◌++◌, length, map, max, min, nat_eq, nat_lt, nat_le, if◌then◌else◌, replicate, slice_index, slice_index_or, slice_set, true, false}
use Rattle.std.specs.List.{fold}
use Rattle.opgen_net.specs.declared.net.Output.{Output}
use Rattle.opgen_schedule.specs.declared.graph.Role.{Role}
use Rattle.opgen_schedule.specs.declared.graph.Role.TheVariants.{Start, Hold, Cell}
use Rattle.opgen_schedule.specs.declared.graph.Vertex.{Vertex}
use Rattle.opgen_schedule.specs.declared.costs.Cost.{Cost}
use Rattle.opgen_schedule.specs.declared.costs.Cost.TheVariants.{Nothing, Whole, Shared}
use Rattle.opgen_schedule.specs.declared.frame.Frame.{Frame}
use Rattle.opgen_schedule.specs.declared.later.Seat.{Seat}
use Rattle.opgen_schedule.specs.declared.slot.Slot.{Slot}
use Rattle.opgen_schedule.specs.Stage.{start, latest}

abbrev pub nowhere : Vertex
nowhere = record { delay = 0; width = 0; role = Start; reads = [] }

abbrev pub vertex_at : List Vertex → ℕ → Vertex
vertex_at vs i = slice_index_or vs i nowhere

-- a time after a delay, no more than a number of 32 bits
abbrev pub time_after : (delay time : ℕ) → ℕ
time_after d t = min (d + t) 4294967295

-- in which time of a cycle a vertex has its word, after operands of which the latest stands here
abbrev pub time_as : Role → (delay cycle : ℕ) → Slot → ℕ
time_as Start d c p = 0
time_as Hold d c p = 0
time_as Cell d c p = time_after d (if nat_eq p.cycle c then p.time else 0)

abbrev pub slot_in : (cycle : ℕ) → Slot → Vertex → Slot
slot_in c p v = record { cycle = c; time = time_as v.role v.delay c p }

-- the slots of further vertices in cycles of a list, at the earliest times
abbrev pub timed_on : (cycles : List ℕ) → List Slot → List Vertex → List Slot
timed_on cycles ps [] = ps
timed_on cycles ps (v ∷ vs) =
    timed_on cycles (ps ++ slot_in (slice_index cycles (length ps)) (latest start ps v.reads) v ∷ []) vs

abbrev pub timed : List Vertex → (cycles : List ℕ) → List Slot
timed vs cycles = timed_on cycles [] vs

-- the number of readers of each vertex
abbrev pub count_reader : List ℕ → ℕ → List ℕ
count_reader counts j = slice_set counts j (min (slice_index counts j + 1) 18446744073709551615)

abbrev pub readers_of : List Vertex → List ℕ
readers_of vs = fold (λ counts (v : Vertex). fold count_reader counts v.reads) (replicate (length vs) 0) vs

-- what it costs to keep a word for a cycle, in twelfths of a bit: nothing, its width, or its width shared out among its readers
abbrev pub cost_as : Cost → (width readers : ℕ) → ℕ
cost_as Nothing w n = 0
cost_as Whole w n = 12 * w
cost_as Shared w n = 12 * w / max n 1

abbrev pub costs_from : Cost → (counts : List ℕ) → ℕ → List Vertex → List ℕ
costs_from k counts i [] = []
costs_from k counts i (v ∷ vs) = cost_as k v.width (slice_index counts i) ∷ costs_from k counts (i + 1) vs

abbrev pub costs_of : Cost → List Vertex → List ℕ
costs_of k vs = costs_from k (readers_of vs) 0 vs

-- what it costs to keep for a cycle more those of some words that nothing reads in it or later
abbrev pub keeping : (costs lasts : List ℕ) → (cycle : ℕ) → (reads : List ℕ) → ℕ
keeping costs lasts c [] = 0
keeping costs lasts c (j ∷ js) = (if nat_lt (slice_index lasts j) c then slice_index costs j else 0) + keeping costs lasts c js

-- the last cycle in which each word is read, once it is read in this cycle too
abbrev pub read_in : (cycle : ℕ) → (lasts : List ℕ) → ℕ → List ℕ
read_in c lasts j = slice_set lasts j (max (slice_index lasts j) c)

-- outputs read in the cycle of the latency
abbrev pub output_reads : (latency : ℕ) → (lasts : List ℕ) → List Output → List ℕ
output_reads latency lasts os = fold (λ ls (o : Output). read_in latency ls o.from.node) lasts os

-- Earlier, from the first vertex to the last: after operands of which the latest stands here, a vertex goes to their cycle if its own
-- word has at most the bits of the words that nothing else keeps so long, or to the next one if there is no time for it.
abbrev pub goes_earlier : (costs lasts : List ℕ) → (cycle : ℕ) → Slot → Vertex → Bool
goes_earlier costs lasts c p v = nat_lt p.cycle c && nat_le (12 * v.width) (keeping costs lasts (p.cycle + 1) v.reads)

abbrev pub earlier_slot : (room : ℕ) → (costs lasts : List ℕ) → (cycle : ℕ) → Slot → Vertex → Slot
earlier_slot room costs lasts c p v =
    if goes_earlier costs lasts c p v then (if nat_le (slot_in p.cycle p v).time room then slot_in p.cycle p v else slot_in (p.cycle + 1) p v)
    else slot_in c p v

abbrev pub earlier_on : (room : ℕ) → (costs cycles lasts : List ℕ) → List Slot → List Vertex → List Slot
earlier_on room costs cycles lasts ps [] = ps
earlier_on room costs cycles lasts ps (v ∷ vs) =
    let q = earlier_slot room costs lasts (slice_index cycles (length ps)) (latest start ps v.reads) v in
    earlier_on room costs cycles (fold (read_in q.cycle) lasts v.reads) (ps ++ q ∷ []) vs

abbrev pub cycles_of : List Slot → List ℕ
cycles_of ps = map (λ p. p.cycle) ps

abbrev pub earlier : Frame → (costs cycles : List ℕ) → List ℕ
earlier f costs cycles = cycles_of (earlier_on f.room costs cycles f.lasts [] f.graph)

-- Later, from the last vertex to the first: a vertex goes to the cycle of its first reader if its own word has at least the bits of the
-- words that nothing else keeps so long, or to the one before if there is no time for it. The first of its readers stands where it is
-- read first, at the longest time that cells take from there.
abbrev pub nobody : Seat
nobody = record { cycle = 0; first = start }

abbrev pub seat_at : List Seat → ℕ → Seat
seat_at ss j = slice_index_or ss j nobody

-- the first of two readers, and the longer where they are in one cycle
abbrev pub sooner : Slot → Slot → Slot
sooner p q = if nat_lt p.cycle q.cycle then p else (if nat_lt q.cycle p.cycle then q else (if nat_lt p.time q.time then q else p))

abbrev pub read_by : Slot → List Seat → ℕ → List Seat
read_by q ss j = slice_set ss j (record { cycle = (seat_at ss j).cycle; first = sooner q (seat_at ss j).first })

abbrev pub moves : Role → Bool
moves Start = false
moves Hold = true
moves Cell = true

abbrev pub goes_later : (costs lasts : List ℕ) → (last : ℕ) → Seat → Vertex → Bool
goes_later costs lasts last s v =
    (moves v.role && (nat_lt s.cycle s.first.cycle && nat_le s.first.cycle last))
    && nat_le (keeping costs lasts s.first.cycle v.reads) (12 * v.width)

abbrev pub later_slot : (room : ℕ) → (costs lasts : List ℕ) → (last : ℕ) → Seat → Vertex → Slot
later_slot room costs lasts last s v =
    if goes_later costs lasts last s v then
    (if nat_le (slot_in s.first.cycle s.first v).time room then slot_in s.first.cycle s.first v else slot_in (s.first.cycle - 1) s.first v)
    else slot_in s.cycle s.first v

-- the seats once vertex i is in this slot
abbrev pub seated : Slot → (i : ℕ) → Vertex → List Seat → List Seat
seated q i v ss = fold (read_by q) (slice_set ss i (record { cycle = q.cycle; first = (seat_at ss i).first })) v.reads

-- the first so many vertices, from the last of them to the first
abbrev pub later_to : (room : ℕ) → (costs : List ℕ) → List Vertex → (count : ℕ) → List Seat → (lasts : List ℕ) → List Seat
later_to room costs vs zero ss lasts = ss
later_to room costs vs (suc i) ss lasts =
    let v = vertex_at vs i in
    let q = later_slot room costs lasts (slice_index lasts i) (seat_at ss i) v in
    later_to room costs vs i (seated q i v ss) (fold (read_in q.cycle) lasts v.reads)

-- in which cycles words are read last, by outputs and by vertices in these cycles
abbrev pub lasts_on : (cycles lasts : List ℕ) → (i : ℕ) → List Vertex → List ℕ
lasts_on cycles lasts i [] = lasts
lasts_on cycles lasts i (v ∷ vs) = lasts_on cycles (fold (read_in (slice_index cycles i)) lasts v.reads) (i + 1) vs

abbrev pub seats_of : (latency : ℕ) → (cycles : List ℕ) → List Seat
seats_of latency cycles = map (λ c. record { cycle = c; first = record { cycle = latency; time = 0 } }) cycles

abbrev pub later : Frame → (costs cycles : List ℕ) → List ℕ
later f costs cycles =
    map (λ s. s.cycle)
    (later_to f.room costs f.graph (length f.graph) (seats_of f.latency cycles) (lasts_on cycles f.lasts 0 f.graph))

-- The two proposals: later from the cycles of one pass; and later from earlier from the latest cycles, where in the way to earlier
-- cycles a word is shared out among its readers.
abbrev pub moved_later : Frame → (cycles : List ℕ) → List ℕ
moved_later f cycles = later f (costs_of Whole f.graph) cycles

abbrev pub moved_back : Frame → (cycles : List ℕ) → List ℕ
moved_back f cycles = moved_later f (earlier f (costs_of Shared f.graph) (later f (costs_of Nothing f.graph) cycles))
