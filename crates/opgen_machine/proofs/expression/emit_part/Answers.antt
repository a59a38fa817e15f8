use Rattle.std.proofs.Common.{◌+◌, ◌-◌, ◌^◌, ◌<◌, Some, length, get_or, refl, sym, ap, ◌∙◌, subst, arith}
use Rattle.std.specs.Prelude.{slice_get}
use Rattle.opgen_design.specs.Tree.{part}
use Rattle.opgen_machine.specs.Layout.{spots_of}
use Rattle.opgen_machine.specs.declared.step.Step.TheVariants.{Part}
use Rattle.opgen_machine.specs.Programs.{Spots}
use Rattle.opgen_machine.specs.Emit.{Emitted}
use Rattle.opgen_machine.proofs.Emitted.{emitted-again, emitted-part, part-bounds}
use Rattle.opgen_machine.proofs.Puts.{put-gives}
use Rattle.opgen_machine.proofs.expression.emit_part.Goals as goal

pub overflow_add-width : goal.overflow_add-width
overflow_add-width c =
    let b = part-bounds c.args.base (spots_of c.args.spots.now) c.args.steps.now.items
    c.requires.fine c.requires.spots c.args.slice.node c.args.slice.high c.args.slice.low c.requires.fits in
    omega (arith, b.1)

pub spot_at-of-requires : goal.spot_at-of-requires
spot_at-of-requires c = subst (λ ss. c.args.slice.node < length ss) (sym c.deref.ensures.value)
    (part-bounds c.args.base (spots_of c.args.spots.now) c.args.steps.now.items c.requires.fine
    c.requires.spots c.args.slice.node c.args.slice.high c.args.slice.low c.requires.fits).0

pub mask-mask-requires : goal.mask-mask-requires
mask-mask-requires c =
    let b = part-bounds c.args.base (spots_of c.args.spots.now) c.args.steps.now.items
    c.requires.fine c.requires.spots c.args.slice.node c.args.slice.high c.args.slice.low c.requires.fits in
    omega (arith, b.1)

pub returns-in-Some : goal.returns-in-Some
returns-in-Some c =
    let base = c.args.base in
    let spots : Spots = spots_of c.args.spots.now in
    let old = c.args.steps.now.items in
    let s = c.args.slice in
    let of = c.spot_at-of.result in
    let at = c.spot_at-of.ensures ∙ ap (λ ss. get_or ss s.node (record { place = 0; width = 0 })) c.deref.ensures.value in
    emitted-again base spots old c.requires.fine c.requires.spots s.node s.high s.low of at c.requires.fits
    c.in-Some.index
    (ap (λ ss. slice_get ss c.in-Some.index) (sym c.deref-2.ensures.value) ∙ c.in-Some.ensures
    ∙ ap (λ k. Some (Part of.place s.low k)) c.mask-mask.ensures)

pub returns-in-None : goal.returns-in-None
returns-in-None c =
    let base = c.args.base in
    let spots : Spots = spots_of c.args.spots.now in
    let old = c.args.steps.now.items in
    let s = c.args.slice in
    let w = s.high + 1 - s.low in
    let of = c.spot_at-of.result in
    let at = c.spot_at-of.ensures ∙ ap (λ ss. get_or ss s.node (record { place = 0; width = 0 })) c.deref.ensures.value in
    put-gives c.put.result (Emitted base spots (part s.node s.high s.low) old) old c.put.new.steps.items
    (Part of.place s.low c.mask-mask.result) (Part of.place s.low (2 ^ w - 1)) (base + length old) w w
    c.put.ensures.steps c.put.ensures.spot (ap (λ m. Part of.place s.low m) c.mask-mask.ensures) refl
    (emitted-part base spots old c.requires.fine c.requires.spots s.node s.high s.low of at c.requires.fits)
