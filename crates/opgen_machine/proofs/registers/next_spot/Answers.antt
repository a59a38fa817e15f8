use Rattle.std.proofs.Common.{◌+◌, length, ◌∙◌, refl, sym, subst}
use Rattle.std.specs.Prelude.{IfSome, IsSome}
use Rattle.opgen_design.specs.Tree.{name, port}
use Rattle.opgen_design.specs.Plain.{plain}
use Rattle.opgen_design.specs.declared.design.Target.TheVariants.{Signal as signal}
use Rattle.opgen_machine.specs.Layout.{spots_of}
use Rattle.opgen_machine.specs.Programs.{AreSpots, Spots}
use Rattle.opgen_machine.specs.Emit.{Chosen, Copied}
use Rattle.opgen_machine.specs.Moves.{IsNext}
use Rattle.opgen_machine.specs.Settles.{HasNarrow, width_at}
use Rattle.opgen_machine.proofs.Gives.{spots-along}
use Rattle.opgen_machine.proofs.Driven.{has-size, if-ok, is-narrow, plain-left, plain-narrow}
use Rattle.opgen_machine.proofs.Handing.{held-size, next-enabled, next-free}
use Rattle.opgen_machine.proofs.registers.next_spot.Goals as goal

pub emit-requires-clause-fits : goal.emit-requires-clause-fits
emit-requires-clause-fits c =
    let spots : Spots = spots_of c.args.spots.now in
    plain-narrow spots (plain c.expr.result.now) c.args.expr.now c.expr.ensures
    (is-narrow spots c.args.expr.now (width_at spots (signal c.args.to)) c.requires.agrees)

pub port-on-requires-clause-spots : goal.port-on-requires-clause-spots
port-on-requires-clause-spots c = spots-along c.args.base (spots_of c.args.spots.now) c.args.steps.now.items c.emit.new.steps.items
    c.requires.spots c.in_ok-new.ensures.extends

pub port-on-requires-clause-fine : goal.port-on-requires-clause-fine
port-on-requires-clause-fine c = c.in_ok-new.ensures.fine

pub port-on-requires-clause-fits : goal.port-on-requires-clause-fits
port-on-requires-clause-fits c =
    let spots : Spots = spots_of c.args.spots.now in
    let h = subst (λ o. IfSome o (λ p. HasNarrow spots (port p) 1)) c.in-Some.is c.requires.enable in
    subst IsSome (sym h.0) refl

pub name-held-requires-clause-spots : goal.name-held-requires-clause-spots
name-held-requires-clause-spots c = spots-along c.args.base (spots_of c.args.spots.now) c.args.steps.now.items c.emit.new.steps.items
    c.requires.spots c.in_ok-new.ensures.extends

pub name-held-requires-clause-fine : goal.name-held-requires-clause-fine
name-held-requires-clause-fine c = c.in_ok-new.ensures.fine

pub name-held-requires-clause-fits : goal.name-held-requires-clause-fits
name-held-requires-clause-fits c =
    let spots : Spots = spots_of c.args.spots.now in
    subst IsSome (sym (held-size spots c.args.to c.args.expr.now c.requires.there c.requires.agrees)) refl

pub choose-requires-clause-fine : goal.choose-requires-clause-fine
choose-requires-clause-fine c = c.in_ok-new.ensures.fine

pub choose-requires-clause-bit : goal.choose-requires-clause-bit
choose-requires-clause-bit c =
    let spots : Spots = spots_of c.args.spots.now in
    let mid = c.emit.new.steps.items in
    has-size c.args.base spots (port c.in-Some.place) mid mid c.port-on.result 1 c.port-on.ensures
    (subst (λ o. IfSome o (λ p. HasNarrow spots (port p) 1)) c.in-Some.is c.requires.enable)

pub choose-requires-clause-on : goal.choose-requires-clause-on
choose-requires-clause-on c = c.port-on.ensures.gives.there

pub choose-requires-clause-same : goal.choose-requires-clause-same
choose-requires-clause-same c =
    let spots : Spots = spots_of c.args.spots.now in
    let before = c.args.steps.now.items in
    let mid = c.emit.new.steps.items in
    let e = plain-left c.args.base spots (plain c.expr.result.now) c.args.expr.now before mid c.in_ok-new.new c.expr.ensures
    c.in_ok-new.ensures in
    let w = width_at spots (signal c.args.to) in
    let held = held-size spots c.args.to c.args.expr.now c.requires.there c.requires.agrees in
    has-size c.args.base spots c.args.expr.now before mid c.in_ok-new.new w e c.requires.agrees
    ∙ sym (has-size c.args.base spots (name c.args.to) mid mid c.name-held.result w c.name-held.ensures (held, c.requires.agrees.1))

pub returns-in-None : goal.returns-in-None
returns-in-None c =
    let base = c.args.base in
    let spots : Spots = spots_of c.args.spots.now in
    let before = c.args.steps.now.items in
    let mid = c.emit.new.steps.items in
    let after = c.copy.new.steps.items in
    let new = c.in_ok-new.new in
    let e = plain-left base spots (plain c.expr.result.now) c.args.expr.now before mid new c.expr.ensures c.in_ok-new.ensures in
    if-ok c.copy.result (λ s. (x : Spots) → AreSpots (base + length mid) x → Copied base x new mid after s) (IsNext base spots c.args.enable c.args.to c.args.expr.now before after)
    (λ s h. next-free base spots c.args.enable c.args.to c.args.expr.now before mid after new s c.in-None.is c.requires.agrees e
    (h spots (spots-along base spots before mid c.requires.spots e.extends)))
    c.copy.ensures

pub returns-in-Some : goal.returns-in-Some
returns-in-Some c =
    let base = c.args.base in
    let spots : Spots = spots_of c.args.spots.now in
    let before = c.args.steps.now.items in
    let mid = c.emit.new.steps.items in
    let after = c.choose.new.steps.items in
    let new = c.in_ok-new.new in
    let on = c.port-on.result in
    let held = c.name-held.result in
    let e = plain-left base spots (plain c.expr.result.now) c.args.expr.now before mid new c.expr.ensures c.in_ok-new.ensures in
    if-ok c.choose.result (λ s. (x : Spots) → AreSpots (base + length mid) x → Chosen base x on new held mid after s) (IsNext base spots c.args.enable c.args.to c.args.expr.now before after)
    (λ s h. next-enabled base spots c.args.enable c.in-Some.place c.args.to c.args.expr.now before mid after new on held s c.in-Some.is
    c.requires.agrees e c.port-on.ensures c.name-held.ensures
    (h spots (spots-along base spots before mid c.requires.spots e.extends)))
    c.choose.ensures
