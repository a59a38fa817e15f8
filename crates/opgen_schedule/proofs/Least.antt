-- The schedule of one pass fits, and in no schedule that fits a node stands before its slot there.
use Rattle.std.proofs.Common.{◌≡◌, ℕ, zero, suc, ◌+◌, ◌<◌, ◌≤◌, Bool, true, false, List, [], ◌∷◌, ◌++◌, length, length-append, get_or, Some, refl, sym, ap, ◌∙◌, subst, arith, inl, inr}
use Rattle.std.specs.Prelude.{All, max, slice_get, slice_index, nat_lt, nat_le, if◌then◌else◌}
use Rattle.std.proofs.lemmas.Bool.{cases_Bool, cases_lt, cases_order, ltb-true, ltb-false, leb-true, leb-false}
use Rattle.std.proofs.lemmas.List.{get_or_append_left, get_or_at, get_or_past}
use Rattle.std.proofs.lemmas.List.Elements.{All-nil, All-cons, All-head, All-tail}
use Rattle.std.proofs.lemmas.Option.{get_or_from_slice_get, slice_get-get_or, slice_get_within}
use Rattle.opgen_net.specs.declared.net.Output.{Output}
use Rattle.opgen_net.specs.declared.node.Node.{Node}
use Rattle.opgen_net.specs.declared.node.Node.TheVariants.{Input, Constant, Cells, Choice, Table, Delay}
use Rattle.opgen_net.specs.Valid.{AllMayStand}
use Rattle.opgen_schedule.specs.declared.slot.Slot.{Slot}
use Rattle.opgen_schedule.specs.Reads.{reads_of, is_constant, is_some_constant, is_constant_at}
use Rattle.opgen_schedule.specs.Schedule.{Schedule, InTime, CellFits, FitsAt, Fits, latency, greatest, greatest_time}
use Rattle.opgen_schedule.specs.Stage.{start, slot_at, later, latest, after, slot_of, stage}
use Rattle.opgen_schedule.specs.Laws.{IsLeast}
use Rattle.opgen_schedule.proofs.Reading.{reads-before}
use Rattle.opgen_schedule.proofs.Equation.{length-stage, stage_equation}

-- an earlier cycle, or the same one at a time that is not later
abbrev NotAfter : Slot → Slot → Type 0
NotAfter p q = (p.cycle ≤ q.cycle) × (q.cycle ≤ p.cycle → p.time ≤ q.time)

pick : (P : Slot → Type 0) (b : Bool) (p q : Slot) → (b ≡ true → P p) → (b ≡ false → P q) → P (if b then p else q)
pick P true p q f g = f refl
pick P false p q f g = g refl

-- the later of two is one of them, and neither is after it
later_one : (P : Slot → Type 0) (p q : Slot) → P p → P q → P (later p q)
later_one P p q x y = pick P (nat_lt p.cycle q.cycle) q _ (λ e. y)
    (λ e. pick P (nat_lt q.cycle p.cycle) p _ (λ e. x) (λ e. pick P (nat_lt p.time q.time) q p (λ e. y) (λ e. x)))

first_not_after : (p q : Slot) → NotAfter p (later p q)
first_not_after p q =
    pick (NotAfter p) (nat_lt p.cycle q.cycle) q _ (λ e. let h = ltb-true p.cycle q.cycle e in (omega (arith, h), λ l. omega (arith, h, l)))
    (
    λ e. pick (NotAfter p) (nat_lt q.cycle p.cycle) p _ (λ f. (omega arith, λ l. omega arith))
    (
    λ f. let h = ltb-false q.cycle p.cycle f in
    pick (NotAfter p) (nat_lt p.time q.time) q p
    (λ g. let k = ltb-true p.time q.time g in (omega (arith, h), λ l. omega (arith, k))) (λ g. (omega arith, λ l. omega arith))
    )
    )

second_not_after : (p q : Slot) → NotAfter q (later p q)
second_not_after p q =
    pick (NotAfter q) (nat_lt p.cycle q.cycle) q _ (λ e. (omega arith, λ l. omega arith))
    (
    λ e. let c = ltb-false p.cycle q.cycle e in
    pick (NotAfter q) (nat_lt q.cycle p.cycle) p _ (λ f. let h = ltb-true q.cycle p.cycle f in (omega (arith, h), λ l. omega (arith, h, l)))
    (
    λ f. pick (NotAfter q) (nat_lt p.time q.time) q p (λ g. (omega arith, λ l. omega arith))
    (λ g. let k = ltb-false p.time q.time g in (omega (arith, c), λ l. omega (arith, k)))
    )
    )

then_not_after : (p q r : Slot) → NotAfter p q → NotAfter q r → NotAfter p r
then_not_after p q r a b = (
  omega (arith, a.0, b.0),
  λ l. let x = a.1 (omega (arith, a.0, b.0, l)) in let y = b.1 (omega (
    arith,
    a.0,
    b.0,
    l,
  )) in omega (arith, x, y),
)

-- what holds of a slot and of those of some nodes holds of the latest
pub latest_one : (P : Slot → Type 0) (p : Slot) (ps : List Slot) (js : List ℕ) → P p → All (λ j. P (slot_at ps j)) js → P (latest p ps js)
latest_one P p ps [] s h = s
latest_one P p ps (j ∷ js) s h =
    latest_one P (later p (slot_at ps j)) ps js (later_one P p (slot_at ps j) s (All-head (λ j. P (slot_at ps j)) j js h))
    (All-tail (λ j. P (slot_at ps j)) j js h)

itself : (p : Slot) → NotAfter p p
itself p = (omega arith, λ l. omega arith)

latest_after : (p : Slot) (ps : List Slot) (js : List ℕ) → NotAfter p (latest p ps js)
latest_after p ps [] = itself p
latest_after p ps (j ∷ js) =
    let q : Slot = later p (slot_at ps j) in
    then_not_after p q (latest q ps js) (first_not_after p (slot_at ps j)) (latest_after q ps js)

-- what holds of all slots up to the latest one holds of each operand's
each_read : (p : Slot) (ps : List Slot) (Q : ℕ → Type 0) (r : Slot) (js : List ℕ) → ((j : ℕ) → NotAfter (slot_at ps j) r → Q j)
    → NotAfter (latest p ps js) r → All Q js
each_read p ps Q r [] f h = All-nil Q
each_read p ps Q r (j ∷ js) f h =
    let q : Slot = later p (slot_at ps j) in
    All-cons Q j js (f j (then_not_after (slot_at ps j) q r (second_not_after p (slot_at ps j))
    (then_not_after q (latest q ps js) r (latest_after q ps js) h)))
    (each_read q ps Q r js f h)

greatest_at : (ds : List ℕ) (i : ℕ) → slice_index ds i ≤ greatest ds
greatest_at [] i = omega arith
greatest_at (d ∷ ds) zero = omega arith
greatest_at (d ∷ ds) (suc i) = omega (arith, greatest_at ds i)

pub short_at : (ds : List ℕ) (setup period i : ℕ) → greatest ds + setup ≤ period → slice_index ds i + setup ≤ period
short_at ds setup period i h = omega (arith, h, greatest_at ds i)

module _ (nodes : List Node) (delays : List ℕ) (setup period : ℕ) (valid : AllMayStand [] nodes) where
  abbrev all : List Slot
  all = stage delays setup period nodes

  abbrev placed : Schedule
  placed = slot_at all

  abbrev delay : ℕ → ℕ
  delay i = slice_index delays i

  equation : (i : ℕ) (n : Node) → slice_get nodes i ≡ Some n → placed i ≡ slot_of setup period all (delay i) n
  equation i n h = stage_equation delays setup period nodes valid i n h

  -- cells after operands that stand in these slots
  after_fits : (i : ℕ) (reads : List ℕ) → greatest delays + setup ≤ period → placed i
      ≡ after setup period (delay i) (latest start all reads)
      → CellFits nodes setup period placed (delay i) i reads
  after_fits i reads l e =
      let d : ℕ = delay i in
      let r : Slot = latest start all reads in
      let short : d + setup ≤ period = short_at delays setup period i l in
      let In : Slot → ℕ → Type 0 = λ p j. is_constant_at nodes j ≡ false → ((placed j).cycle ≤ p.cycle)
      × ((placed j).cycle ≡ p.cycle → (placed j).time + d ≤ p.time) in
      let P : Slot → Type 0 = λ p. (d ≤ p.time) × (p.time + setup ≤ period) × All (In p) reads in
      let same : Slot = record { cycle = r.cycle; time = r.time + d } in
      let next : Slot = record { cycle = r.cycle + 1; time = d } in
      let parts : P (placed i) =
      subst P (sym e)
      (
      pick P (nat_le (r.time + d + setup) period) same next
      (
      λ f. let room = leb-true (r.time + d + setup) period f in (
        omega arith,
        omega (arith, room),
        each_read start all (In same) r reads (λ j a c. (a.0, λ same. let t = a.1 (omega (arith, same)) in omega (arith, t))) (itself r),
      )
      )
      (
      λ f. (
        omega arith,
        omega (arith, short),
        each_read start all (In next) r reads (λ j a c. (omega (arith, a.0), λ same. absurd (omega (arith, a.0, same)))) (itself r),
      )
      )
      ) in
      record { own = parts.0; ends = parts.1; operands = parts.2 }

  fits_at : greatest delays + setup ≤ period → (i : ℕ) (n : Node) → slice_get nodes i ≡ Some n
      → FitsAt nodes setup period placed (delay i) i n
  fits_at l i (Input port w) h = let e = equation i (Input port w) h in (ap (λ p. p.cycle) e, ap (λ p. p.time) e)
  fits_at l i (Constant w) h = tt
  fits_at l i (Cells class w x) h = after_fits i (reads_of (Cells class w x)) l (equation i (Cells class w x) h)
  fits_at l i (Choice on one other) h = after_fits i (reads_of (Choice on one other)) l (equation i (Choice on one other) h)
  fits_at l i (Table address rows) h = after_fits i (reads_of (Table address rows)) l (equation i (Table address rows) h)
  fits_at l i (Delay of) h = let e = equation i (Delay of) h in (ap (λ p. p.time) e, λ c. omega (arith, ap (λ p. p.cycle) e))

  -- a node may read a slot
  abbrev Allows : Slot → ℕ → Slot → Type 0
  Allows r d p = (p.cycle ≤ r.cycle) × (r.cycle ≤ p.cycle → p.time + d ≤ r.time)

  both_reads : (A B C : ℕ → Type 0) (js : List ℕ) → ((j : ℕ) → A j → B j → C j) → All A js → All B js → All C js
  both_reads A B C js f a b = λ k d l. f _ (a k d l) (b k d l)

  -- a constant stands at the start
  constant_starts : (j : ℕ) (n : Node) → slice_get nodes j ≡ Some n → is_constant n ≡ true → placed j ≡ start
  constant_starts j (Constant w) h c = equation j (Constant w) h
  constant_starts j (Input port w) h c = absurd (cc)
  constant_starts j (Cells class w e) h c = absurd (cc)
  constant_starts j (Choice on one other) h c = absurd (cc)
  constant_starts j (Table address rows) h c = absurd (cc)
  constant_starts j (Delay of) h c = absurd (cc)

  there : (i j : ℕ) (n : Node) → slice_get nodes i ≡ Some n → j < i → (m : Node) × (slice_get nodes j ≡ Some m)
  there i j n h l = let m = slice_get_within nodes i n h in (_, slice_get-get_or nodes j n (omega (arith, l, m)))

  module _ (s : Schedule) (fits : Fits nodes delays setup period s) where
    -- a constant is at the start, and any other operand is not after where it stands in the other schedule
    operand : (i j d : ℕ) (m : Node) → slice_get nodes j ≡ Some m → d ≤ (s i).time → NotAfter (placed j) (s j)
        → (is_constant_at nodes j ≡ false → InTime s d i j) → Allows (s i) d (placed j)
    operand i j d m h l ih t =
        elim (cases_Bool (is_constant m)) [
          | inl c ↦ let e = constant_starts j m h c in (omega (arith, ap (λ p. p.cycle) e), λ k. omega (arith, l, ap (λ p. p.time) e))
          | inr c ↦
              let u = t (ap is_some_constant h ∙ c) in (
                omega (arith, ih.0, u.0),
                λ k. let x = u.1 (omega (arith, ih.0, u.0, k)) in let y = ih.1 (omega (arith, ih.0, u.0, k))
                    in omega (arith, x, y),
              )
        ]

    cell : (d : ℕ) (r p : Slot) → Allows r d p → d ≤ r.time → r.time + setup ≤ period → NotAfter (after setup period d p) r
    cell d r p a o l =
        pick (λ q. NotAfter q r) (nat_le (p.time + d + setup) period) _ _
        (λ e. (a.0, a.1))
        (
        λ e. let no = leb-false (p.time + d + setup) period e in
        (elim (cases_lt p.cycle r.cycle) [ inl k ↦ omega (arith, k) | inr k ↦ absurd (let x = a.1 k in omega (arith, x, no, l)) ], λ k. o)
        )

    cell_at : (i : ℕ) (n : Node) → slice_get nodes i ≡ Some n → (reads : List ℕ) → All (λ j. j < i) reads
        → CellFits nodes setup period s (delay i) i reads
        → ((j : ℕ) → j < i → NotAfter (placed j) (s j)) → NotAfter (after setup period (delay i) (latest start all reads)) (s i)
    cell_at i n h reads r f ih =
        cell (delay i) (s i) (latest start all reads)
        (
        latest_one (Allows (s i) (delay i)) start all reads (omega arith, λ k. omega (arith, f.own))
        (
        both_reads (λ j. j < i) (λ j. is_constant_at nodes j ≡ false → InTime s (delay i) i j)
        (λ j. Allows (s i) (delay i) (placed j)) reads
        (λ j k t. let m = there i j n h k in operand i j (delay i) m.0 m.1 f.own (ih j k) t) r f.operands
        )
        )
        f.own f.ends

    by_bound : (b i : ℕ) (n : Node) → i < b → slice_get nodes i ≡ Some n → NotAfter (placed i) (s i)
    by_bound zero i n l h = absurd (omega (arith, l))
    by_bound (suc b) i n l h =
        let ih = λ (j : ℕ) (k : j < i). let m = there i j n h k in by_bound b j m.0 (omega (arith, l, k)) m.1 in
        subst (λ p. NotAfter p (s i)) (sym (equation i n h)) (at n h (fits.nodes_fit i n h) (reads-before nodes valid i n h) ih)
      where
        at : (n : Node) → slice_get nodes i ≡ Some n → FitsAt nodes setup period s (delay i) i n → All (λ j. j < i) (reads_of n)
            → ((j : ℕ) → j < i → NotAfter (placed j) (s j)) → NotAfter (slot_of setup period all (delay i) n) (s i)
        at (Input port w) h f r ih = (omega arith, λ k. omega arith)
        at (Constant w) h f r ih = (omega arith, λ k. omega arith)
        at (Cells class w e) h f r ih = cell_at i (Cells class w e) h (reads_of (Cells class w e)) r f ih
        at (Choice on one other) h f r ih = cell_at i (Choice on one other) h (reads_of (Choice on one other)) r f ih
        at (Table address rows) h f r ih = cell_at i (Table address rows) h (reads_of (Table address rows)) r f ih
        at (Delay of) h f r ih =
            let k : of < i = All-head (λ j. j < i) of [] r in
            let m = there i of (Delay of) h k in
            elim (cases_Bool (is_constant m.0)) [
              | inl c ↦ let e = constant_starts of m.0 m.1 c in (omega (arith, ap (λ p. p.cycle) e), λ k. omega arith)
              | inr c ↦ let u = f.1 (ap is_some_constant m.1 ∙ c) in let v = ih of k in (omega (arith, v.0, u), λ k. omega arith)
            ]

    pub stage_least : (i : ℕ) (n : Node) → slice_get nodes i ≡ Some n → NotAfter (placed i) (s i)
    stage_least i n h = by_bound (suc i) i n (omega arith) h

    -- a node that is not there counts as well: it stands at the start
    cycle_least : (i : ℕ) → (placed i).cycle ≤ (s i).cycle
    cycle_least i =
        elim (cases_lt i (length nodes)) [
          | inl l ↦ (stage_least i _ (slice_get-get_or nodes i (Delay 0) l)).0
          | inr l ↦ omega (arith, ap (λ p. p.cycle) (get_or_past all i start (omega (arith, l, length-stage delays setup period nodes))))
        ]

    latency_least : (os : List Output) → latency nodes placed os ≤ latency nodes s os
    latency_least [] = omega arith
    latency_least (o ∷ os) = by (is_constant_at nodes o.from.node) (latency_least os)
      where
        by : (b : Bool) → latency nodes placed os ≤ latency nodes s os
            → max (if b then 0 else (placed o.from.node).cycle) (latency nodes placed os) ≤ max (if b then 0 else (s o.from.node).cycle)
            (latency nodes s os)
        by true h = omega (arith, h)
        by false h = omega (arith, cycle_least o.from.node, h)

-- where no cell's delay with the setup is more than the period, the schedule of one pass fits it
pub stage_fits : (nodes : List Node) (delays : List ℕ) (setup period : ℕ) → AllMayStand [] nodes → length delays ≡ length nodes
    → greatest delays + setup ≤ period → Fits nodes delays setup period (slot_at (stage delays setup period nodes))
stage_fits nodes delays setup period valid long l = record
    { a_delay_each = long; setup_fits = omega (arith, l); nodes_fit = fits_at nodes delays setup period valid l }

-- its latency is the least
pub stage_is_least : (nodes : List Node) (delays : List ℕ) (setup period : ℕ) → AllMayStand [] nodes
    → IsLeast nodes delays setup period (slot_at (stage delays setup period nodes))
stage_is_least nodes delays setup period valid s fits outputs = latency_least nodes delays setup period valid s fits outputs

-- the latest slot is in none but the first so many cycles, where all are
pub latest_early : (ps : List Slot) (js : List ℕ) (m : ℕ) → ((j : ℕ) → (slot_at ps j).cycle ≤ m) → (latest start ps js).cycle ≤ m
latest_early ps js m h = latest_one (λ p. p.cycle ≤ m) start ps js (omega arith) (λ k d l. h _)

pub after_early : (setup period delay : ℕ) (p : Slot) → (after setup period delay p).cycle ≤ p.cycle + 1
after_early setup period delay p =
    pick (λ q. q.cycle ≤ p.cycle + 1) (nat_le (p.time + delay + setup) period) (record { cycle = p.cycle; time = p.time + delay })
    (record { cycle = p.cycle + 1; time = delay })
    (λ e. omega arith) (λ e. omega arith)

-- the next node's slot among those before
pub early-push : (ps : List Slot) (p : Slot) → ((j : ℕ) → (slot_at ps j).cycle ≤ length ps) → p.cycle ≤ length ps + 1 → (j : ℕ)
    → (slot_at (ps ++ p ∷ []) j).cycle ≤ length (ps ++ p ∷ [])
early-push ps p h l j =
    let longer : length (ps ++ p ∷ []) ≡ length ps + 1 = length-append ps (p ∷ []) in
    elim (cases_order j (length ps)) [
      | inl e ↦ omega (arith, l, longer, ap (λ q. q.cycle) (get_or_at ps p [] start j (sym e)))
      | inr o ↦ elim o [
        | inl b ↦ omega (arith, h j, longer, ap (λ q. q.cycle) (get_or_append_left ps (p ∷ []) start j b))
        | inr b ↦ omega (arith, longer, ap (λ q. q.cycle) (get_or_past (ps ++ p ∷ []) j start (omega (arith, b, longer))))
      ]
    ]

-- each slot's time leaves the setup before the end of the cycle
module _ (nodes : List Node) (delays : List ℕ) (setup period : ℕ) (valid : AllMayStand [] nodes)
    (short : greatest delays + setup ≤ period) where
  ends-at : (i : ℕ) (n : Node) → slice_get nodes i ≡ Some n → (slot_at (stage delays setup period nodes) i).time + setup ≤ period
  ends-at i (Input port w) h = omega (arith, short, ap (λ p. p.time) (equation nodes delays setup period valid i (Input port w) h))
  ends-at i (Constant w) h = omega (arith, short, ap (λ p. p.time) (equation nodes delays setup period valid i (Constant w) h))
  ends-at i (Delay of) h = omega (arith, short, ap (λ p. p.time) (equation nodes delays setup period valid i (Delay of) h))
  ends-at i (Cells class w e) h = (fits_at nodes delays setup period valid short i (Cells class w e) h).ends
  ends-at i (Choice on one other) h = (fits_at nodes delays setup period valid short i (Choice on one other) h).ends
  ends-at i (Table address rows) h = (fits_at nodes delays setup period valid short i (Table address rows) h).ends

  greatest-ends : (ps : List Slot) → All (λ p. p.time + setup ≤ period) ps → greatest_time ps + setup ≤ period
  greatest-ends [] h = omega (arith, short)
  greatest-ends (p ∷ ps) h =
      omega (arith, All-head (λ p. p.time + setup ≤ period) p ps h, greatest-ends ps (All-tail (λ p. p.time + setup ≤ period) p ps h))

  pub stage-ends : (ps : List Slot) → ps ≡ stage delays setup period nodes → greatest_time ps + setup ≤ period
  stage-ends ps e =
      greatest-ends ps (
      λ i d l.
      let count = ap length e ∙ length-stage delays setup period nodes in
      let same : get_or ps i d ≡ slot_at (stage delays setup period nodes) i =
      sym (get_or_from_slice_get ps i (get_or ps i d) start (slice_get-get_or ps i d l)) ∙ ap (λ qs. slot_at qs i) e in
      let there : i < length nodes = omega (arith, l, count) in
      omega (arith, ap (λ p. p.time) same, ends-at i (get_or nodes i (Delay 0)) (slice_get-get_or nodes i (Delay 0) there))
      )

-- slots that are early by their places are early as items
pub all-early : (ps : List Slot) (m : ℕ) → length ps ≤ m → ((j : ℕ) → (slot_at ps j).cycle ≤ length ps) → All (λ p. p.cycle ≤ m) ps
all-early ps m l h i d k =
    let same : get_or ps i d ≡ slot_at ps i = sym (get_or_from_slice_get ps i (get_or ps i d) start (slice_get-get_or ps i d k)) in
    omega (arith, ap (λ p. p.cycle) same, h i, l)
