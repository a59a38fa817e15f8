use Rattle.std.proofs.Common.{◌+◌, length, refl}
use Rattle.opgen_machine.specs.declared.step.Step.TheVariants.{Choose}
use Rattle.opgen_machine.specs.Programs.{AreSpots, Spots}
use Rattle.opgen_machine.specs.Emit.{Chosen}
use Rattle.opgen_machine.proofs.Gives.{chosen-of}
use Rattle.opgen_machine.proofs.Puts.{put-gives}
use Rattle.opgen_machine.proofs.expression.choose.Goals as goal

pub returns : goal.returns
returns c =
    let base = c.args.base in
    let old = c.args.steps.now.items in
    let on = c.args.on in
    let one = c.args.one in
    let other = c.args.other in
    put-gives c.put.result (λ new s. (spots : Spots) → AreSpots (base + length old) spots → Chosen base spots on one other old new s) old c.put.new.steps.items (Choose on.place one.place other.place)
    (Choose on.place one.place other.place) (base + length old) one.width one.width
    c.put.ensures.steps c.put.ensures.spot refl refl
    (λ spots are. chosen-of base spots old c.requires.fine are on one other c.requires.bit c.requires.same c.requires.on c.requires.one
    c.requires.other)
