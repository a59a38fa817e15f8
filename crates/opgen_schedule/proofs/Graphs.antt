-- Timing graphs of nets are in order; and slots that pass the test of a schedule are one that fits.
use Rattle.std.proofs.Common.{◌≡◌, ℕ, zero, suc, ◌+◌, ◌<◌, ◌≤◌, Bool, true, false, ◌⊎◌, inl, inr, List, [], ◌∷◌, ◌++◌, length, get_or, Some, refl, sym, ap, ◌∙◌, subst, arith}
use Rattle.std.specs.Prelude.{All, ◌&&◌, ◌||◌, nat_eq, nat_lt, nat_le, if◌then◌else◌, slice_get, slice_index}
use Rattle.std.specs.List.{fold, list_all, list_any}
use Rattle.std.proofs.lemmas.Bool.{leb-true, ltb-true, eqb-true}
use Rattle.std.proofs.lemmas.List.Elements.{All-nil, All-cons, All-head, All-tail, All-append}
use Rattle.std.proofs.lemmas.List.Folds.{list_all-append}
use Rattle.std.proofs.lemmas.Option.{slice_get-get_or, slice_get_within, get_or_from_slice_get}
use Rattle.opgen_net.specs.declared.node.Node.{Node}
use Rattle.opgen_net.specs.declared.node.Node.TheVariants.{Input, Constant, Cells, Choice, Table, Delay}
use Rattle.opgen_net.specs.Made.{each_node}
use Rattle.opgen_net.specs.Valid.{AllMayStand}
use Rattle.opgen_schedule.specs.declared.graph.Vertex.{Vertex}
use Rattle.opgen_schedule.specs.declared.slot.Slot.{Slot}
use Rattle.opgen_schedule.specs.Fitting.{all_fit, comes_first, does_fit, fits_as}
use Rattle.opgen_schedule.specs.Graph.{IsOrdered, graph_of, operands, vertex_of, with_operand}
use Rattle.opgen_schedule.specs.Moves.{nowhere}
use Rattle.opgen_schedule.specs.Reads.{reads_of, is_constant_at}
use Rattle.opgen_schedule.specs.Schedule.{Fits, FitsAt, InTime}
use Rattle.opgen_schedule.specs.Stage.{slot_at, start}
use Rattle.opgen_schedule.proofs.Reading.{reads-before}

pub both : (a b : Bool) → (a && b) ≡ true → (a ≡ true) × (b ≡ true)
both true b h = (refl, h)
both false b h = absurd (cc)

either : (a b : Bool) → (a || b) ≡ true → (a ≡ true) ⊎ (b ≡ true)
either true b h = inl refl
either false b h = inr h

-- a value of each node by its number
pub length-each : {X : Type 0} (f : ℕ → Node → X) (k : ℕ) (ns : List Node) → length (each_node f k ns) ≡ length ns
length-each f k [] = refl
length-each f k (n ∷ ns) = ap suc (length-each f (k + 1) ns)

get-each_on : {X : Type 0} (f : ℕ → Node → X) (k : ℕ) (ns : List Node) (j : ℕ) (n : Node) → slice_get ns j ≡ Some n
    → slice_get (each_node f k ns) j ≡ Some (f (k + j) n)
get-each_on f k [] j n h = absurd (cc)
get-each_on f k (m ∷ ns) zero n h =
    let is : m ≡ n = cc in
    let e : k ≡ k + 0 = omega arith in
    ap (λ x. Some (f k x)) is ∙ ap (λ i. Some (f i n)) e
get-each_on f k (m ∷ ns) (suc j) n h =
    let e : k + 1 + j ≡ k + suc j = omega arith in
    get-each_on f (k + 1) ns j n h ∙ ap (λ i. Some (f i n)) e

pub get-each : {X : Type 0} (f : ℕ → Node → X) (ns : List Node) (j : ℕ) (n : Node) → slice_get ns j ≡ Some n
    → slice_get (each_node f 0 ns) j ≡ Some (f j n)
get-each f ns j n h = let e : 0 + j ≡ j = omega arith in get-each_on f 0 ns j n h ∙ ap (λ i. Some (f i n)) e

chosen : (P : List ℕ → Type 0) (b : Bool) (xs ys : List ℕ) → P xs → P ys → P (if b then xs else ys)
chosen P true xs ys x y = x
chosen P false xs ys x y = y

-- operands are among the nodes that are read
module _ (nodes : List Node) (P : ℕ → Type 0) where
  operands-all : (js found : List ℕ) → All P found → All P js → All P (fold (with_operand nodes) found js)
  operands-all [] found h k = h
  operands-all (j ∷ js) found h k =
      operands-all js (with_operand nodes found j)
      (chosen (All P) (is_constant_at nodes j || list_any (nat_eq j) found) found (found ++ j ∷ []) h
      (All-append P found (j ∷ []) h (All-cons P j [] (All-head P j js k) (All-nil P))))
      (All-tail P j js k)

module _ (nodes : List Node) (delays widths : List ℕ) (valid : AllMayStand [] nodes) where
  vertex-at : (i : ℕ) (v : Vertex) → slice_get (graph_of delays widths nodes) i ≡ Some v
      → (n : Node) × (slice_get nodes i ≡ Some n) × (v ≡ vertex_of nodes (slice_index delays i) (slice_index widths i) n)
  vertex-at i v h =
      let f : ℕ → Node → Vertex = λ i n. vertex_of nodes (slice_index delays i) (slice_index widths i) n in
      let l : i < length nodes = omega (arith, slice_get_within (graph_of delays widths nodes) i v h, length-each f 0 nodes) in
      let n : Node = get_or nodes i (Delay 0) in
      let there = slice_get-get_or nodes i (Delay 0) l in
      let is = get-each f nodes i n there in
      let same : v ≡ f i n = cc in
      (n, there, same)

  pub graph-ordered : (vs : List Vertex) → vs ≡ graph_of delays widths nodes → IsOrdered vs
  graph-ordered vs e i v h =
      let at = vertex-at i v (sym (ap (λ us. slice_get us i) e) ∙ h) in
      let n : Node = at.0 in
      subst (λ (u : Vertex). All (λ j. j < i) u.reads) (sym at.2)
      (operands-all nodes (λ j. j < i) (reads_of n) [] (All-nil (λ j. j < i)) (reads-before nodes valid i n at.1))

-- what all operands pass, all nodes pass that are read and are no constants
module _ (nodes : List Node) (p : ℕ → Bool) where
  among-all : (j : ℕ) (xs : List ℕ) → list_all p xs ≡ true → list_any (nat_eq j) xs ≡ true → p j ≡ true
  among-all j [] h k = absurd (cc)
  among-all j (x ∷ xs) h k =
      let b = both (p x) (list_all p xs) h in
      elim (either (nat_eq j x) (list_any (nat_eq j) xs) k) [
        | inl e ↦ ap p (eqb-true j x e) ∙ b.0
        | inr e ↦ among-all j xs b.1 e
      ]

  one-more : (j : ℕ) (found : List ℕ) (c a : Bool) → (a ≡ true → list_all p found ≡ true → p j ≡ true)
      → list_all p (if c || a then found else found ++ j ∷ []) ≡ true → (list_all p found ≡ true) × (c ≡ false → p j ≡ true)
  one-more j found true a k h = (h, λ e. absurd (cc))
  one-more j found false true k h = (h, λ e. k refl h)
  one-more j found false false k h =
      let b = both (list_all p found) (list_all p (j ∷ [])) (sym (list_all-append p found (j ∷ [])) ∙ h) in
      (b.0, λ e. (both (p j) true b.1).0)

  pub reads-pass : (js found : List ℕ) → list_all p (fold (with_operand nodes) found js) ≡ true
      → (list_all p found ≡ true) × All (λ j. is_constant_at nodes j ≡ false → p j ≡ true) js
  reads-pass [] found h = (h, All-nil (λ j. is_constant_at nodes j ≡ false → p j ≡ true))
  reads-pass (j ∷ js) found h =
      let rest = reads-pass js (with_operand nodes found j) h in
      let here = one-more j found (is_constant_at nodes j) (list_any (nat_eq j) found) (λ a l. among-all j found l a) rest.0 in
      (here.0, All-cons (λ j. is_constant_at nodes j ≡ false → p j ≡ true) j js here.1 rest.1)

mapped-all : (P Q : ℕ → Type 0) → ((j : ℕ) → P j → Q j) → (js : List ℕ) → All P js → All Q js
mapped-all P Q f js h i d k = f _ (h i d k)

-- the test of a vertex
fit-at : (room : ℕ) (ps : List Slot) (i : ℕ) (vs : List Vertex) (j : ℕ) (v : Vertex) → all_fit room ps i vs ≡ true → slice_get vs j ≡ Some v
    → ((slot_at ps (i + j)).cycle ≤ length ps) × (fits_as v.role room v.delay ps (slot_at ps (i + j)) v.reads ≡ true)
fit-at room ps i [] j v h g = absurd (cc)
fit-at room ps i (u ∷ vs) zero v h g =
    let is : u ≡ v = cc in
    let e : i ≡ i + 0 = omega arith in
    let b = both _ (all_fit room ps (i + 1) vs) h in
    let c = both (nat_le (slot_at ps i).cycle (length ps)) (fits_as u.role room u.delay ps (slot_at ps i) u.reads) b.0 in (
      subst (λ k. (slot_at ps k).cycle ≤ length ps) e (leb-true (slot_at ps i).cycle (length ps) c.0),
      subst (λ k. fits_as v.role room v.delay ps (slot_at ps k) v.reads ≡ true) e
          (subst (λ (w : Vertex). fits_as w.role room w.delay ps (slot_at ps i) w.reads ≡ true) is c.1),
    )
fit-at room ps i (u ∷ vs) (suc j) v h g =
    let e : i + 1 + j ≡ i + suc j = omega arith in
    let b = both _ (all_fit room ps (i + 1) vs) h in
    subst (λ k. ((slot_at ps k).cycle ≤ length ps) × (fits_as v.role room v.delay ps (slot_at ps k) v.reads ≡ true)) e
    (fit-at room ps (i + 1) vs j v b.1 g)

in-time : (ps : List Slot) (delay i j : ℕ) → comes_first delay (slot_at ps i) (slot_at ps j) ≡ true → InTime (slot_at ps) delay i j
in-time ps delay i j h =
    let p : Slot = slot_at ps j in
    let q : Slot = slot_at ps i in
    elim (either (nat_lt p.cycle q.cycle) (nat_eq p.cycle q.cycle && nat_le (p.time + delay) q.time) h) [
      | inl e ↦ let l = ltb-true p.cycle q.cycle e in (omega (arith, l), λ same. absurd (omega (arith, l, same)))
      | inr e ↦ let b = both (nat_eq p.cycle q.cycle) (nat_le (p.time + delay) q.time) e in
          let c = eqb-true p.cycle q.cycle b.0 in
          (omega (arith, c), λ same. leb-true (p.time + delay) q.time b.1)
    ]

module _ (nodes : List Node) (delays widths : List ℕ) (setup period room : ℕ) (ps : List Slot) (whole : room + setup ≡ period) where
  cell-fits : (i d : ℕ) (js : List ℕ)
      → (nat_le d (slot_at ps i).time && (nat_le (slot_at ps i).time room
      && list_all (λ j. comes_first d (slot_at ps i) (slot_at ps j)) (fold (with_operand nodes) [] js))) ≡ true
      → (d ≤ (slot_at ps i).time) × ((slot_at ps i).time + setup ≤ period)
      × All (λ j. is_constant_at nodes j ≡ false → InTime (slot_at ps) d i j) js
  cell-fits i d js h =
      let q : Slot = slot_at ps i in
      let p : ℕ → Bool = λ j. comes_first d q (slot_at ps j) in
      let b = both (nat_le d q.time) (nat_le q.time room && list_all p (fold (with_operand nodes) [] js)) h in
      let c = both (nat_le q.time room) (list_all p (fold (with_operand nodes) [] js)) b.1 in (
        leb-true d q.time b.0,
        omega (arith, leb-true q.time room c.0, whole),
        mapped-all (λ j. is_constant_at nodes j ≡ false → p j ≡ true) (λ j. is_constant_at nodes j ≡ false → InTime (slot_at ps) d i j)
            (λ j f e. in-time ps d i j (f e)) js (reads-pass nodes p js [] c.1).1,
      )

  node-fits : (i d w : ℕ) (n : Node)
      → fits_as (vertex_of nodes d w n).role room d ps (slot_at ps i) (operands nodes n) ≡ true
      → FitsAt nodes setup period (slot_at ps) d i n
  node-fits i d w (Input port v) h =
      let b = both (nat_eq (slot_at ps i).cycle 0) (nat_eq (slot_at ps i).time 0) h in
      (eqb-true (slot_at ps i).cycle 0 b.0, eqb-true (slot_at ps i).time 0 b.1)
  node-fits i d w (Constant v) h = tt
  node-fits i d w (Delay of) h =
      let q : Slot = slot_at ps i in
      let p : ℕ → Bool = λ j. nat_le (slot_at ps j).cycle q.cycle in
      let b = both (nat_eq q.time 0) (list_all p (operands nodes (Delay of))) h in
      let pass = (reads-pass nodes p (of ∷ []) [] b.1).1 in
      let P : ℕ → Type 0 = λ j. is_constant_at nodes j ≡ false → p j ≡ true in
      (eqb-true q.time 0 b.0, λ e. leb-true (slot_at ps of).cycle q.cycle (All-head P of [] pass e))
  node-fits i d w (Cells class v e) h =
      let f = cell-fits i d (reads_of (Cells class v e)) h in record { own = f.0; ends = f.1; operands = f.2 }
  node-fits i d w (Choice on one other) h =
      let f = cell-fits i d (reads_of (Choice on one other)) h in record { own = f.0; ends = f.1; operands = f.2 }
  node-fits i d w (Table address rows) h =
      let f = cell-fits i d (reads_of (Table address rows)) h in record { own = f.0; ends = f.1; operands = f.2 }

  pub test-fits : (vs : List Vertex) → vs ≡ graph_of delays widths nodes → length delays ≡ length nodes → does_fit room vs ps ≡ true
      → Fits nodes delays setup period (slot_at ps)
  test-fits vs e long h =
      let f : ℕ → Node → Vertex = λ i n. vertex_of nodes (slice_index delays i) (slice_index widths i) n in
      let test = sym (ap (λ us. does_fit room us ps) e) ∙ h in
      record {
        a_delay_each = long;
        setup_fits = omega (arith, whole);
        nodes_fit = λ i n g.
            let at = fit-at room ps 0 (graph_of delays widths nodes) i (f i n) test (get-each f nodes i n g) in
            let z : 0 + i ≡ i = omega arith in
            node-fits i (slice_index delays i) (slice_index widths i) n
            (subst (λ k. fits_as (f i n).role room (slice_index delays i) ps (slot_at ps k) (operands nodes n) ≡ true) z at.1);
      }

-- and each slot's cycle is at most their number
pub test-early : (room : ℕ) (vs : List Vertex) (ps : List Slot) → length ps ≡ length vs → does_fit room vs ps ≡ true
    → All (λ p. p.cycle ≤ length vs) ps
test-early room vs ps long h i d k =
    let l : i < length vs = omega (arith, k, long) in
    let v : Vertex = get_or vs i nowhere in
    let at = fit-at room ps 0 vs i v h (slice_get-get_or vs i nowhere l) in
    let z : 0 + i ≡ i = omega arith in
    let same : get_or ps i d ≡ slot_at ps i = sym (get_or_from_slice_get ps i (get_or ps i d) start (slice_get-get_or ps i d k)) in
    omega (arith, at.0, ap (λ k. (slot_at ps k).cycle) z, ap (λ (p : Slot). p.cycle) same, long)
