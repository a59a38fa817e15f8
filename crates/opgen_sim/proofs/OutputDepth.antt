-- What the outputs show is said by the inputs of as many cycles back as the depth.
use Rattle.std.proofs.Common.{◌≡◌, ℕ, zero, suc, ◌+◌, ◌<◌, ◌≤◌, Bool, List, [], ◌∷◌, length, Some, refl, sym, ap, ◌∙◌, subst, arith}
use Rattle.std.specs.Prelude.{slice_get}
use Rattle.std.proofs.lemmas.Option.{slice_get_within}
use Rattle.opgen_design.specs.declared.design.Design.{Design}
use Rattle.opgen_design.specs.Run.{Words, Cycle, RunsOn, at_ports, is_out}
use Rattle.opgen_design.specs.Sound.{IsSound}
use Rattle.opgen_design.proofs.NameWalk.{some-item}
use Rattle.opgen_design.specs.Depth.{LooksBack, AgreeFrom, OutputsDependOnDepth}
use Rattle.opgen_sim.proofs.Cycles.{SameUpTo, next-same, ports-same, same-from-zero}

-- a cycle of a run from the registers' words of its start
abbrev CycleAt : Design → (state : ℕ → List (List Bool)) → (inputs : List (List (List Bool))) → (t : ℕ) → Words → Type 0
CycleAt d state inputs t v = (given : List (List Bool)) × (slice_get inputs t ≡ Some given) × Cycle d (state t) given v (state (suc t))

-- a run by the registers' words before each of its cycles
record States (d : Design) (now : List (List Bool)) (inputs : List (List (List Bool))) (vs : List Words) : Type 0 where
  state : ℕ → List (List Bool)
  start : state 0 ≡ now
  cycle : (t : ℕ) (v : Words) → slice_get vs t ≡ Some v → CycleAt d state inputs t v

abbrev after : List (List Bool) → (ℕ → List (List Bool)) → ℕ → List (List Bool)
after now state zero = now
after now state (suc t) = state t

module _ (d : Design) (now next given : List (List Bool)) (v : Words) (inputs : List (List (List Bool))) (vs : List Words)
    (here : Cycle d now given v next) (later : States d next inputs vs) where
  cycles : (t : ℕ) (w : Words) → slice_get (v ∷ vs) t ≡ Some w → CycleAt d (after now later.state) (given ∷ inputs) t w
  cycles zero w e =
      let same : v ≡ w = cc in
      (given, refl, subst (λ x. Cycle d now given x (later.state 0)) same (subst (Cycle d now given v) (sym later.start) here))
  cycles (suc t) w e = later.cycle t w e

  one-more : States d now (given ∷ inputs) (v ∷ vs)
  one-more = record { state = after now later.state; start = refl; cycle = cycles }

states : (d : Design) (inputs : List (List (List Bool))) (now : List (List Bool)) (vs : List Words) → RunsOn d now inputs vs
    → States d now inputs vs
states d [] now [] h = record { state = λ t. now; start = refl; cycle = λ t v e. absurd (cc) }
states d [] now (v ∷ vs) h = absurd h
states d (given ∷ inputs) now [] h = absurd h
states d (given ∷ inputs) now (v ∷ vs) (next, here, rest) = one-more d now next given v inputs vs here (states d inputs next vs rest)

module _ (d : Design) (depth : ℕ) (sound : IsSound d) (has : LooksBack d depth) (inputs others : List (List (List Bool)))
    (vs us : List Words) (t u : ℕ) (agree : AgreeFrom depth t u inputs others) (room : t + depth < length vs)
    (room-2 : u + depth < length us) (start start-2 : List (List Bool)) (one : States d start inputs vs)
    (two : States d start-2 others us) where
  same-from : (j : ℕ) → j ≤ depth → SameUpTo d has.rank j (one.state (t + j)) (two.state (u + j))
  same-from zero l = same-from-zero d has.rank has.ranks (one.state (t + zero)) (two.state (u + zero))
  same-from (suc j) l =
      let v = some-item vs (t + j) (omega (arith, room, l)) in
      let w = some-item us (u + j) (omega (arith, room-2, l)) in
      let c = one.cycle (t + j) v.0 v.1 in
      let k = two.cycle (u + j) w.0 w.1 in
      let both : Some c.0 ≡ Some k.0 = sym c.1 ∙ agree j (omega (arith, l)) ∙ k.1 in
      let given : k.0 ≡ c.0 = cc in
      let e : t + suc j ≡ suc (t + j) = omega arith in
      let f : u + suc j ≡ suc (u + j) = omega arith in
      let here : Cycle d (two.state (u + j)) c.0 w.0 (two.state (suc (u + j)))
      = subst (λ g. Cycle d (two.state (u + j)) g w.0 (two.state (suc (u + j)))) given k.2 in
      rw (e, f) (next-same d sound (one.state (t + j)) (two.state (u + j)) c.0 v.0 w.0 (one.state (suc (t + j))) (two.state (suc (u + j)))
      c.2 here has.rank has.ranks j (same-from j (omega (arith, l))) has.no_enable)

  same-ports : (v w : Words) → slice_get vs (t + depth) ≡ Some v → slice_get us (u + depth) ≡ Some w → v.ports ≡ w.ports
  same-ports v w e f =
      let c = one.cycle (t + depth) v e in
      let k = two.cycle (u + depth) w f in
      let both : Some c.0 ≡ Some k.0 = sym c.1 ∙ agree depth (omega arith) ∙ k.1 in
      let given : k.0 ≡ c.0 = cc in
      let here : Cycle d (two.state (u + depth)) c.0 w (two.state (suc (u + depth)))
      = subst (λ g. Cycle d (two.state (u + depth)) g w (two.state (suc (u + depth)))) given k.2 in
      ports-same d sound (one.state (t + depth)) (two.state (u + depth)) c.0 v w (one.state (suc (t + depth)))
      (two.state (suc (u + depth))) c.2 here has.rank has.ranks depth (same-from depth (omega arith)) has.shown

pub outputs-depend : OutputsDependOnDepth
outputs-depend d depth sound has start other_start inputs others vs us h k t u v w agree e f =
    ap (at_ports is_out d.ports)
    (same-ports d depth sound has inputs others vs us t u agree (slice_get_within vs (t + depth) v e) (slice_get_within us (u + depth) w f)
    start other_start (states d inputs start vs h) (states d others other_start us k) v w e f)
