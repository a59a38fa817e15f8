use Rattle.std.proofs.Common.{◌+◌, ◌-◌, ◌^◌, length, refl, ap}
use Rattle.opgen_machine.specs.declared.step.Step.TheVariants.{Look}
use Rattle.opgen_machine.specs.Emit.{Looked}
use Rattle.opgen_machine.proofs.Gives.{looked-of}
use Rattle.opgen_machine.proofs.Puts.{put-gives}
use Rattle.opgen_machine.proofs.expression.look_up.Goals as goal

pub returns : goal.returns
returns c =
    let base = c.args.base in
    let old = c.args.steps.now.items in
    let on = c.args.on in
    let from = c.args.from in
    let w = c.args.width in
    put-gives c.put.result (Looked base on from w old) old c.put.new.steps.items (Look from on.place c.mask.result)
    (Look from on.place (2 ^ on.width - 1)) (base + length old) w w
    c.put.ensures.steps c.put.ensures.spot (ap (Look from on.place) c.mask.ensures) refl
    (looked-of base old c.requires.fine on from w c.requires.on c.requires.numbers)
