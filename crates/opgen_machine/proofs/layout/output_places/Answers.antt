use Rattle.std.proofs.Common.{◌≡◌, ◌+◌, ◌<◌, ◌++◌, ◌∷◌, [], ℕ, Bool, true, false, if◌then◌else◌, List, length, drop, map, get_or, refl, sym, ap, ◌∙◌, arith, append_assoc}
use Rattle.std.proofs.lemmas.List.{drop_more}
use Rattle.opgen_design.specs.declared.design.Port.{Port}
use Rattle.opgen_design.specs.Run.{at_ports, is_out}
use Rattle.opgen_machine.specs.declared.step.Spot.{Spot}
use Rattle.opgen_machine.proofs.layout.output_places.Goals as goal
use Rattle.opgen_machine.proofs.layout.output_places.Goals.{then-is_output+in_ok-push, else-is_output}

abbrev place : Spot → ℕ
place s = s.place

abbrev left : List Port → List Spot → ℕ → List ℕ
left ps ss i = map place (at_ports is_out (drop i ps) (drop i ss))

if-map : (b : Bool) (s : Spot) (ss : List Spot)
    → map place (if b then s ∷ ss else ss) ≡ (if b then s.place ∷ map place ss else map place ss)
if-map true s ss = refl
if-map false s ss = refl

split : (ps : List Port) (ss : List Spot) (i : ℕ) (p : Port) (d : Spot) → i < length ps → p ≡ get_or ps i p → length ss ≡ length ps
    → left ps ss i ≡ (if is_out p.dir then (get_or ss i d).place ∷ left ps ss (i + 1) else left ps ss (i + 1))
split ps ss i p d l is n =
    let a = drop_more ps i p l ∙ ap (λ q. q ∷ drop (i + 1) ps) (sym is) in
    let b = drop_more ss i d (omega (arith, l, n)) in
    ap (λ qs. map place (at_ports is_out qs (drop i ss))) a
    ∙ ap (λ xs. map place (at_ports is_out (p ∷ drop (i + 1) ps) xs)) b
    ∙ if-map (is_out p.dir) (get_or ss i d) (at_ports is_out (drop (i + 1) ps) (drop (i + 1) ss))

then-more : (b : Bool) (x : ℕ) (front xs all : List ℕ) → b ≡ true → front ++ (if b then x ∷ xs else xs) ≡ all
    → (front ++ x ∷ []) ++ xs ≡ all
then-more true x front xs all e h = append_assoc front (x ∷ []) xs ∙ h
then-more false x front xs all e h = absurd (cc)

else-more : (b : Bool) (x : ℕ) (front xs all : List ℕ) → b ≡ false → front ++ (if b then x ∷ xs else xs) ≡ all → front ++ xs ≡ all
else-more true x front xs all e h = absurd (cc)
else-more false x front xs all e h = h

pub loop-index-preserved : goal.loop-index-preserved
loop-index-preserved c =
    let ps = c.args.ports.now in
    let ss = c.args.spots.now in
    let i = c.loop-index.index in
    let p = c.index-ports-index.result in
    let x = get_or ss i (record { place = 0; width = 0 }) in
    let front = c.loop-index.places.items in
    let h = ap (λ xs. front ++ xs) (sym
    (split ps ss i p (record { place = 0; width = 0 }) c.loop-index-test.true c.index-ports-index.is c.requires))
    ∙ c.loop-index.invariant in
    elim c.if-is_output.branch [
      | then-is_output+in_ok-push w ↦
          ap (λ v. v.items ++ left ps ss (i + 1)) w.places-is
          ∙ ap (λ xs. xs ++ left ps ss (i + 1)) w.in_ok-push.ensures.items
          ∙ then-more (is_out p.dir) x.place front (left ps ss (i + 1)) (map place (at_ports is_out ps ss))
          (sym c.is_output.ensures ∙ w.if-is_output.true) h
      | else-is_output w ↦
          ap (λ v. v.items ++ left ps ss (i + 1)) w.places-is
          ∙ else-more (is_out p.dir) x.place front (left ps ss (i + 1)) (map place (at_ports is_out ps ss))
          (sym c.is_output.ensures ∙ w.if-is_output.false) h
    ]
