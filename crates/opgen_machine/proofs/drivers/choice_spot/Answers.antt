use Rattle.std.proofs.Common.{ℕ, ◌+◌, length, sym, ap, ◌∙◌, subst}
use Rattle.opgen_design.specs.Plain.{plain}
use Rattle.opgen_machine.specs.Layout.{spots_of}
use Rattle.opgen_machine.specs.Programs.{AreSpots, Spots}
use Rattle.opgen_machine.specs.Emit.{Chosen, IsNarrow, width_over}
use Rattle.opgen_machine.specs.Settles.{HasNarrow, Left, chosen_over}
use Rattle.opgen_machine.proofs.Gives.{extends-trans, spots-along, there-along}
use Rattle.opgen_machine.proofs.Driven.{choice-left, has-size, if-ok, is-narrow, plain-left, plain-narrow, same-size}
use Rattle.opgen_machine.proofs.drivers.choice_spot.Goals as goal

pub emit-requires-clause-fits : goal.emit-requires-clause-fits
emit-requires-clause-fits c =
    let spots : Spots = spots_of c.args.spots.now in
    plain-narrow spots (plain c.expr.result.now) c.args.on.now c.expr.ensures (is-narrow spots c.args.on.now 1 c.requires.on)

pub emit-requires-2-clause-spots : goal.emit-requires-2-clause-spots
emit-requires-2-clause-spots c = spots-along c.args.base (spots_of c.args.spots.now) c.args.steps.now.items c.emit.new.steps.items
    c.requires.spots c.in_ok-on.ensures.extends

pub emit-requires-2-clause-fine : goal.emit-requires-2-clause-fine
emit-requires-2-clause-fine c = c.in_ok-on.ensures.fine

pub emit-requires-2-clause-fits : goal.emit-requires-2-clause-fits
emit-requires-2-clause-fits c = plain-narrow (spots_of c.args.spots.now) (plain c.expr-2.result.now) c.args.yes.now c.expr-2.ensures
    c.requires.yes

pub emit-requires-3-clause-spots : goal.emit-requires-3-clause-spots
emit-requires-3-clause-spots c =
    let b = c.args.steps.now.items in
    let b1 = c.emit.new.steps.items in
    let b2 = c.emit-2.new.steps.items in
    spots-along c.args.base (spots_of c.args.spots.now) b b2 c.requires.spots
    (extends-trans b b1 b2 c.in_ok-on.ensures.extends c.in_ok-yes.ensures.extends)

pub emit-requires-3-clause-fine : goal.emit-requires-3-clause-fine
emit-requires-3-clause-fine c = c.in_ok-yes.ensures.fine

pub emit-requires-3-clause-fits : goal.emit-requires-3-clause-fits
emit-requires-3-clause-fits c = plain-narrow (spots_of c.args.spots.now) (plain c.expr-3.result.now) c.args.no.now c.expr-3.ensures
    (subst IsNarrow (sym c.requires.no) c.requires.yes)

pub choose-requires-clause-fine : goal.choose-requires-clause-fine
choose-requires-clause-fine c = c.in_ok-no.ensures.fine

pub choose-requires-clause-bit : goal.choose-requires-clause-bit
choose-requires-clause-bit c =
    let base = c.args.base in
    let spots : Spots = spots_of c.args.spots.now in
    let b = c.args.steps.now.items in
    let b1 = c.emit.new.steps.items in
    let s1 = c.in_ok-on.on in
    has-size base spots c.args.on.now b b1 s1 1
    (plain-left base spots (plain c.expr.result.now) c.args.on.now b b1 s1 c.expr.ensures c.in_ok-on.ensures) c.requires.on

pub choose-requires-clause-same : goal.choose-requires-clause-same
choose-requires-clause-same c =
    let spots : Spots = spots_of c.args.spots.now in
    same-size spots (plain c.expr-2.result.now) (plain c.expr-3.result.now) c.in_ok-yes.yes.width c.in_ok-no.no.width
    c.in_ok-yes.ensures.width c.in_ok-no.ensures.width
    (ap (width_over spots) c.expr-3.ensures ∙ c.requires.no ∙ sym (ap (width_over spots) c.expr-2.ensures))

pub choose-requires-clause-on : goal.choose-requires-clause-on
choose-requires-clause-on c =
    let b1 = c.emit.new.steps.items in
    let b2 = c.emit-2.new.steps.items in
    let b3 = c.emit-3.new.steps.items in
    there-along c.args.base c.in_ok-on.on.place b1 b3 (extends-trans b1 b2 b3 c.in_ok-yes.ensures.extends c.in_ok-no.ensures.extends)
    c.in_ok-on.ensures.gives.there

pub choose-requires-clause-one : goal.choose-requires-clause-one
choose-requires-clause-one c = there-along c.args.base c.in_ok-yes.yes.place c.emit-2.new.steps.items c.emit-3.new.steps.items
    c.in_ok-no.ensures.extends c.in_ok-yes.ensures.gives.there

pub choose-requires-clause-other : goal.choose-requires-clause-other
choose-requires-clause-other c = c.in_ok-no.ensures.gives.there

pub returns : goal.returns
returns c =
    let base = c.args.base in
    let spots : Spots = spots_of c.args.spots.now in
    let s1 = c.in_ok-on.on in
    let s2 = c.in_ok-yes.yes in
    let s3 = c.in_ok-no.no in
    let after = c.choose.new.steps.items in
    let b3 = c.emit-3.new.steps.items in
    if-ok c.choose.result (λ s. (x : Spots) → AreSpots (base + length b3) x → Chosen base x s1 s2 s3 b3 after s)
    (λ s. (size : ℕ) → HasNarrow spots c.args.yes.now size
    → Left base spots (chosen_over c.args.on.now c.args.yes.now c.args.no.now) size c.args.steps.now.items after s)
    (λ s h size n. choice-left base spots c.args.steps.now.items c.requires.spots c.args.on.now c.args.yes.now c.args.no.now size
    c.emit.new.steps.items c.emit-2.new.steps.items b3 after s1 s2 s3 s n
    (plain-left base spots (plain c.expr.result.now) c.args.on.now c.args.steps.now.items c.emit.new.steps.items s1 c.expr.ensures
    c.in_ok-on.ensures)
    (plain-left base spots (plain c.expr-2.result.now) c.args.yes.now c.emit.new.steps.items c.emit-2.new.steps.items s2 c.expr-2.ensures
    c.in_ok-yes.ensures)
    (plain-left base spots (plain c.expr-3.result.now) c.args.no.now c.emit-2.new.steps.items b3 s3 c.expr-3.ensures c.in_ok-no.ensures)
    (h spots))
    c.choose.ensures
