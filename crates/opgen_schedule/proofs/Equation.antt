-- Each node's slot is what its kind says over the slots of all nodes.
use Rattle.std.proofs.Common.{◌≡◌, ℕ, zero, suc, ◌+◌, ◌<◌, List, [], ◌∷◌, ◌++◌, length, length-append, Some, refl, sym, ap, ◌∙◌, subst, arith}
use Rattle.std.specs.Prelude.{slice_get, slice_index, All}
use Rattle.std.proofs.lemmas.List.{get_or_append_left, get_or_at}
use Rattle.std.proofs.lemmas.List.Elements.{All-head, All-tail}
use Rattle.opgen_net.specs.declared.node.Node.{Node}
use Rattle.opgen_net.specs.declared.node.Node.TheVariants.{Input, Constant, Cells, Choice, Table, Delay}
use Rattle.opgen_net.specs.Valid.{AllMayStand}
use Rattle.opgen_schedule.specs.declared.slot.Slot.{Slot}
use Rattle.opgen_schedule.specs.Reads.{reads_of}
use Rattle.opgen_schedule.specs.Stage.{start, slot_at, later, latest, after, slot_of, slots_on, stage}
use Rattle.opgen_schedule.proofs.Reading.{reads-before}

module _ (delays : List ℕ) (setup period : ℕ) where
  kept : (ps : List Slot) (ns : List Node) (j : ℕ) → j < length ps → slot_at (slots_on delays setup period ps ns) j ≡ slot_at ps j
  kept ps [] j h = refl
  kept ps (n ∷ ns) j h =
      let p : Slot = slot_of setup period ps (slice_index delays (length ps)) n in
      kept (ps ++ p ∷ []) ns j (omega (arith, h, length-append ps (p ∷ []))) ∙ get_or_append_left ps (p ∷ []) start j h

  pub length-slots_on : (ps : List Slot) (ns : List Node) → length (slots_on delays setup period ps ns) ≡ length ps + length ns
  length-slots_on ps [] = omega arith
  length-slots_on ps (n ∷ ns) =
      let p : Slot = slot_of setup period ps (slice_index delays (length ps)) n in
      omega (arith, length-slots_on (ps ++ p ∷ []) ns, length-append ps (p ∷ []))

  pub length-stage : (ns : List Node) → length (stage delays setup period ns) ≡ length ns
  length-stage ns = length-slots_on [] ns ∙ omega arith

  module _ (ps qs : List Slot) (m : ℕ) (same : (j : ℕ) → j < m → slot_at ps j ≡ slot_at qs j) where
    same_latest : (p : Slot) (js : List ℕ) → All (λ j. j < m) js → latest p ps js ≡ latest p qs js
    same_latest p [] h = refl
    same_latest p (j ∷ js) h =
        ap (λ q. latest (later p q) ps js) (same j (All-head (λ j. j < m) j js h))
        ∙ same_latest (later p (slot_at qs j)) js (All-tail (λ j. j < m) j js h)

    same_slot : (d : ℕ) (n : Node) → All (λ j. j < m) (reads_of n) → slot_of setup period ps d n ≡ slot_of setup period qs d n
    same_slot d (Input port w) h = refl
    same_slot d (Constant w) h = refl
    same_slot d (Cells class w e) h = ap (after setup period d) (same_latest start (reads_of (Cells class w e)) h)
    same_slot d (Choice on one other) h = ap (after setup period d) (same_latest start (reads_of (Choice on one other)) h)
    same_slot d (Table address rows) h = ap (after setup period d) (same_latest start (reads_of (Table address rows)) h)
    same_slot d (Delay of) h =
        let f : Slot → Slot = λ p. record { cycle = p.cycle; time = 0 } in
        ap f (same of (All-head (λ j. j < m) of [] h))

  equation_on : (ps : List Slot) (ns : List Node) (j : ℕ) (n : Node) → slice_get ns j ≡ Some n → All (λ i. i < length ps + j) (reads_of n)
      → slot_at (slots_on delays setup period ps ns) (length ps + j)
      ≡ slot_of setup period (slots_on delays setup period ps ns) (slice_index delays (length ps + j)) n
  equation_on ps [] j n h r = absurd (cc)
  equation_on ps (m ∷ ns) zero n h r =
      let d : ℕ → ℕ = slice_index delays in
      let p : Slot = slot_of setup period ps (d (length ps)) m in
      let all : List Slot = slots_on delays setup period (ps ++ p ∷ []) ns in
      let e : length ps + 0 ≡ length ps = omega arith in
      let longer : length (ps ++ p ∷ []) ≡ length ps + 1 = omega (arith, length-append ps (p ∷ [])) in
      let is : m ≡ n = cc in
      let before = λ (i : ℕ) (l : i < length ps). sym
      (kept (ps ++ p ∷ []) ns i (omega (arith, l, longer)) ∙ get_or_append_left ps (p ∷ []) start i l) in
      ap (slot_at all) e
      ∙ kept (ps ++ p ∷ []) ns (length ps) (omega (arith, longer))
      ∙ get_or_at ps p [] start (length ps) refl
      ∙ ap (slot_of setup period ps (d (length ps))) is
      ∙ same_slot ps all (length ps) before (d (length ps)) n (subst (λ i. All (λ k. k < i) (reads_of n)) e r)
      ∙ ap (λ i. slot_of setup period all (d i) n) (sym e)
  equation_on ps (m ∷ ns) (suc j) n h r =
      let p : Slot = slot_of setup period ps (slice_index delays (length ps)) m in
      let e : length ps + suc j ≡ length (ps ++ p ∷ []) + j = omega (arith, length-append ps (p ∷ [])) in
      let all : List Slot = slots_on delays setup period (ps ++ p ∷ []) ns in
      ap (slot_at all) e
      ∙ equation_on (ps ++ p ∷ []) ns j n h (subst (λ i. All (λ k. k < i) (reads_of n)) e r)
      ∙ ap (λ i. slot_of setup period all (slice_index delays i) n) (sym e)

  pub stage_equation : (nodes : List Node) → AllMayStand [] nodes → (i : ℕ) (n : Node) → slice_get nodes i ≡ Some n
      → slot_at (stage delays setup period nodes) i ≡ slot_of setup period (stage delays setup period nodes) (slice_index delays i) n
  stage_equation nodes valid i n h =
      let e : i ≡ 0 + i = omega arith in
      ap (slot_at (stage delays setup period nodes)) e
      ∙ equation_on [] nodes i n h (subst (λ k. All (λ j. j < k) (reads_of n)) e (reads-before nodes valid i n h))
      ∙ ap (λ k. slot_of setup period (stage delays setup period nodes) (slice_index delays k) n) (sym e)
