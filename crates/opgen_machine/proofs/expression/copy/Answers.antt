use Rattle.std.proofs.Common.{◌+◌, length, refl}
use Rattle.opgen_machine.specs.declared.step.Step.TheVariants.{Copy}
use Rattle.opgen_machine.specs.Programs.{AreSpots, Spots}
use Rattle.opgen_machine.specs.Emit.{Copied}
use Rattle.opgen_machine.proofs.Gives.{copied-of}
use Rattle.opgen_machine.proofs.Puts.{put-gives}
use Rattle.opgen_machine.proofs.expression.copy.Goals as goal

pub returns : goal.returns
returns c =
    let base = c.args.base in
    let old = c.args.steps.now.items in
    let of = c.args.of in
    put-gives c.put.result (λ new s. (spots : Spots) → AreSpots (base + length old) spots → Copied base spots of old new s) old c.put.new.steps.items (Copy of.place) (Copy of.place) (base + length old)
    of.width of.width
    c.put.ensures.steps c.put.ensures.spot refl refl
    (λ spots are. copied-of base spots old c.requires.fine are of c.requires.of)
