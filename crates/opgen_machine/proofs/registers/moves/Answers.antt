use Rattle.std.proofs.Common.{◌≡◌, ◌+◌, ◌<◌, ◌++◌, ◌∷◌, [], ℕ, Bool, List, Option, take, length, refl, sym, ap, ◌∙◌, subst, arith}
use Rattle.std.proofs.lemmas.List.{length-map, take_more}
use Rattle.opgen_design.specs.declared.design.Driver.{Driver}
use Rattle.opgen_design.specs.declared.design.Driver.TheVariants.{Assign, Choice, Table, Register, Output}
use Rattle.opgen_design.specs.Run.{Words}
use Rattle.opgen_design.specs.Sound.{target}
use Rattle.opgen_design.specs.Tree.{Tree}
use Rattle.opgen_runs.specs.Evaluate.{hand_on}
use Rattle.opgen_machine.specs.Layout.{spots_of}
use Rattle.opgen_machine.specs.Programs.{Spots, widths_of}
use Rattle.opgen_machine.specs.declared.step.Spot.{Spot}
use Rattle.opgen_machine.specs.Moves.{HandsOn}
use Rattle.opgen_machine.specs.Settles.{Agrees, IsThere}
use Rattle.opgen_machine.proofs.Gives.{spots-along}
use Rattle.opgen_machine.proofs.Handing.{hands-more, hands-skip}
use Rattle.opgen_machine.proofs.registers.moves.Goals as goal
use Rattle.opgen_machine.proofs.registers.moves.Goals.{in-Register+in_ok-spot+in_ok-push, in_default}

no-register : (enable : Option ℕ) (k : Driver) → ((to : ℕ) (e : Tree) → k ≡ Register to e → ⊥) → (v : Words) (next : List (List Bool))
    → hand_on enable k v next ≡ next
no-register enable (Assign to e) f v next = refl
no-register enable (Choice to on one other) f v next = refl
no-register enable (Table to on rows other) f v next = refl
no-register enable (Register to e) f v next = absurd (f to e refl)
no-register enable (Output place e) f v next = refl

pub next_spot-requires-clause-spots : goal.next_spot-requires-clause-spots
next_spot-requires-clause-spots c = spots-along c.args.base (spots_of c.args.spots.now) c.args.steps.now.items c.loop-driver.steps.items
    c.requires.spots c.loop-driver.invariant.extends

pub next_spot-requires-clause-fine : goal.next_spot-requires-clause-fine
next_spot-requires-clause-fine c = c.loop-driver.invariant.fine

pub next_spot-requires-clause-there : goal.next_spot-requires-clause-there
next_spot-requires-clause-there c = subst (λ k. IsThere (spots_of c.args.spots.now) (target k)) (sym c.driver-item.is ∙ c.in-Register.is)
    (c.requires.there c.loop-driver.driver-index c.driver-item.result c.loop-driver-test.true)

pub next_spot-requires-clause-agrees : goal.next_spot-requires-clause-agrees
next_spot-requires-clause-agrees c = subst (Agrees (spots_of c.args.spots.now)) (sym c.driver-item.is ∙ c.in-Register.is)
    (c.requires.agrees c.loop-driver.driver-index c.driver-item.result c.loop-driver-test.true)

pub loop-driver-preserved : goal.loop-driver-preserved
loop-driver-preserved c =
    let base = c.args.base in
    let spots : Spots = spots_of c.args.spots.now in
    let widths = widths_of c.args.spots.now.signals.items in
    let ks = c.args.drivers.now in
    let i = c.loop-driver.driver-index in
    let k = c.driver-item.result in
    let before = c.args.steps.now.items in
    let mid = c.loop-driver.steps.items in
    let h = c.loop-driver.invariant in
    let more : take (i + 1) ks ≡ take i ks ++ k ∷ [] = take_more ks i k c.loop-driver-test.true
    ∙ ap (λ x. take i ks ++ x ∷ []) (sym c.driver-item.is) in
    let n : length widths ≡ length c.args.spots.now.signals.items = length-map c.args.spots.now.signals.items (λ (s : Spot). s.width) in
    elim c.match-driver.branch [
      | in-Register+in_ok-spot+in_ok-push w ↦
          let to = w.in-Register.to in
          let e = w.in-Register.expr in
          let s = w.in_ok-spot.spot in
          let there : to < length c.args.spots.now.signals.items = subst (λ x. IsThere spots (target x)) (sym c.driver-item.is ∙ w.in-Register.is)
          (c.requires.there i k c.loop-driver-test.true) in
          let all = hands-more base spots c.args.enable widths (take i ks) to e before mid w.next_spot.new.steps.items
          c.loop-driver.moves.items s c.requires.spots refl (omega (arith, there, n)) (omega (arith, n, c.requires.first)) h
          w.in_ok-spot.ensures in
          let one = subst (λ x. HandsOn base spots c.args.enable widths (take i ks ++ x ∷ []) before w.next_spot.new.steps.items
          (c.loop-driver.moves.items ++ record { to = to; from = s.place } ∷ [])) (sym w.in-Register.is) all in
          let two = subst (λ x. HandsOn base spots c.args.enable widths x before w.next_spot.new.steps.items
          (c.loop-driver.moves.items ++ record { to = to; from = s.place } ∷ [])) (sym more) one in
          let three = subst (λ x. HandsOn base spots c.args.enable widths (take (i + 1) ks) before x.items
          (c.loop-driver.moves.items ++ record { to = to; from = s.place } ∷ [])) (sym w.steps-is) two in
          subst (λ x. HandsOn base spots c.args.enable widths (take (i + 1) ks) before c.match-driver.steps.items x)
          (sym (ap (λ x. x.items) w.moves-is ∙ w.in_ok-push.ensures.items)) three
      | in_default w ↦
          let all = hands-skip base spots c.args.enable widths (take i ks) k before mid c.loop-driver.moves.items
          (no-register c.args.enable k w.in_default.not-Register) h in
          let two = subst (λ x. HandsOn base spots c.args.enable widths x before mid c.loop-driver.moves.items) (sym more) all in
          let three = subst (λ x. HandsOn base spots c.args.enable widths (take (i + 1) ks) before x.items c.loop-driver.moves.items)
          (sym w.steps-is) two in
          subst (λ x. HandsOn base spots c.args.enable widths (take (i + 1) ks) before c.match-driver.steps.items x)
          (sym (ap (λ x. x.items) w.moves-is)) three
    ]
