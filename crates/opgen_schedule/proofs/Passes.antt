-- One step of a loop over the vertices of a timing graph.
use Rattle.std.proofs.Common.{◌≡◌, ℕ, suc, ◌+◌, ◌<◌, ◌≤◌, List, ◌∷◌, length, get_or, drop, refl, sym, ap, ◌∙◌, arith}
use Rattle.std.specs.Prelude.{All, slice_index}
use Rattle.std.specs.List.{fold}
use Rattle.std.proofs.lemmas.List.{drop_more}
use Rattle.std.proofs.lemmas.Option.{get_or_from_slice_get, slice_get_read}
use Rattle.opgen_schedule.specs.declared.graph.Vertex.{Vertex}
use Rattle.opgen_schedule.specs.declared.later.Seat.{Seat}
use Rattle.opgen_schedule.specs.Graph.{IsOrdered}
use Rattle.opgen_schedule.specs.declared.slot.Slot.{Slot}
use Rattle.opgen_schedule.specs.Moves.{later_slot, later_to, read_in, seat_at, seated, nowhere, vertex_at}

-- what is left of a list from an item on is the item, and then what is left after it
pub drop-item : {X : Type 0} (xs : List X) (i : ℕ) (x : X) → i < length xs → x ≡ get_or xs i x → drop i xs ≡ x ∷ drop (i + 1) xs
drop-item xs i x l e = drop_more xs i x l ∙ ap (λ y. y ∷ drop (i + 1) xs) (sym e)

-- a vertex of an ordered graph reads vertices before it
pub reads-before-it : (vs : List Vertex) → IsOrdered vs → (i : ℕ) (v : Vertex) → i < length vs → v ≡ get_or vs i v → All (λ j. j < i) v.reads
reads-before-it vs o i v l e = o i v (slice_get_read vs (length vs) i v refl l e)

pub below : (js : List ℕ) (m n : ℕ) → m ≤ n → All (λ j. j < m) js → All (λ j. j < n) js
below js m n l a i d k = omega (arith, l, a i d k)

-- so within so many
pub reads-within : (vs : List Vertex) → IsOrdered vs → (i : ℕ) (v : Vertex) → i < length vs → v ≡ get_or vs i v → (n : ℕ) → i ≤ n
    → All (λ j. j < n) v.reads
reads-within vs o i v l e n m = below v.reads i n m (reads-before-it vs o i v l e)

-- one vertex more that goes to later cycles
pub later-step : (room : ℕ) (costs : List ℕ) (vs : List Vertex) (i place : ℕ) (ss next : List Seat) (ls more : List ℕ) (v : Vertex) (q : Slot)
    → place ≡ suc i → i < length vs → v ≡ get_or vs i v → q ≡ later_slot room costs ls (slice_index ls i) (seat_at ss i) v
    → next ≡ seated q i v ss → more ≡ fold (read_in q.cycle) ls v.reads
    → later_to room costs vs i next more ≡ later_to room costs vs place ss ls
later-step room costs vs i place ss next ls more v q count l e is seats lasts =
    let there : v ≡ vertex_at vs i = sym (get_or_from_slice_get vs i v nowhere (slice_get_read vs (length vs) i v refl l e)) in
    let slot : Vertex → Slot = λ u. later_slot room costs ls (slice_index ls i) (seat_at ss i) u in
    let settled : Slot → Vertex → List Seat = λ p u. later_to room costs vs i (seated p i u ss) (fold (read_in p.cycle) ls u.reads) in
    ap (λ ts. later_to room costs vs i ts more) seats
    ∙ ap (later_to room costs vs i (seated q i v ss)) lasts
    ∙ ap (λ p. settled p v) is
    ∙ ap (λ u. settled (slot u) u) there
    ∙ ap (λ k. later_to room costs vs k ss ls) (sym count)
