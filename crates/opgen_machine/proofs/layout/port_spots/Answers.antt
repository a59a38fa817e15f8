use Rattle.std.proofs.Common.{◌≡◌, ◌+◌, ◌<◌, ◌++◌, ◌∷◌, [], ℕ, List, length, drop, get_or, refl, sym, ap, ◌∙◌, arith, append_assoc}
use Rattle.std.proofs.lemmas.List.{drop_more}
use Rattle.opgen_design.specs.declared.design.Dir.TheVariants.{In, Out}
use Rattle.opgen_design.specs.declared.design.Port.{Port}
use Rattle.opgen_machine.specs.Layout.{port_spots}
use Rattle.opgen_machine.specs.declared.step.Spot.{Spot}
use Rattle.opgen_machine.proofs.layout.port_spots.Goals as goal
use Rattle.opgen_machine.proofs.layout.port_spots.Goals.{in-In, in-Out}

-- an input stands at the next place
input-first : (p : Port) (ps : List Port) (next rest after place : ℕ) → p.dir ≡ In → after ≡ next + 1 → place ≡ next
    → port_spots next rest (p ∷ ps) ≡ record { place = place; width = p.width } ∷ port_spots after rest ps
input-first p ps next rest after place e a b = rw (e, a, b) refl

-- an output stands at the place of all outputs
output-first : (p : Port) (ps : List Port) (next rest after place : ℕ) → p.dir ≡ Out → after ≡ next → place ≡ rest
    → port_spots next rest (p ∷ ps) ≡ record { place = place; width = p.width } ∷ port_spots after rest ps
output-first p ps next rest after place e a b = rw (e, a, b) refl

-- one spot more in front of those that are left
one-more : (p : Port) (ps : List Port) (i next rest after : ℕ) (spot : Spot) (front items all : List Spot) → i < length ps → p ≡ get_or ps i p
    → port_spots next rest (p ∷ drop (i + 1) ps) ≡ spot ∷ port_spots after rest (drop (i + 1) ps) → items ≡ front ++ spot ∷ []
    → front ++ port_spots next rest (drop i ps) ≡ all → items ++ port_spots after rest (drop (i + 1) ps) ≡ all
one-more p ps i next rest after spot front items all here is one e h =
    let split = drop_more ps i p here ∙ ap (λ q. q ∷ drop (i + 1) ps) (sym is) in
    ap (λ xs. xs ++ port_spots after rest (drop (i + 1) ps)) e
    ∙ append_assoc front (spot ∷ []) (port_spots after rest (drop (i + 1) ps))
    ∙ ap (λ xs. front ++ xs) (sym one)
    ∙ ap (λ xs. front ++ port_spots next rest xs) (sym split)
    ∙ h

pub loop-port-preserved : goal.loop-port-preserved
loop-port-preserved c =
    let ps = c.args.ports.now in
    let i = c.loop-port.port-index in
    let p = c.port-item.result in
    let next = c.loop-port.next in
    let rest = c.args.rest in
    let after = c.match-port.next in
    let place = c.match-port.place in
    let more = one-more p ps i next rest after (record { place = place; width = p.width }) c.loop-port.spots.items c.push.new.self.items
    (port_spots c.args.at rest ps) c.loop-port-test.true c.port-item.is in
    elim c.match-port.branch [
      | in-In w ↦ record {
        spots = more (input-first p (drop (i + 1) ps) next rest after place w.in-In.is w.next-is (omega (arith, w.place-is)))
            c.in_ok-push.ensures.items c.loop-port.invariant.spots;
        next = omega (arith, w.next-is, c.loop-port.invariant.next);
      }
      | in-Out w ↦ record {
        spots = more (output-first p (drop (i + 1) ps) next rest after place w.in-Out.is w.next-is w.place-is)
            c.in_ok-push.ensures.items c.loop-port.invariant.spots;
        next = omega (arith, w.next-is, c.loop-port.invariant.next);
      }
    ]
