use Rattle.std.proofs.Common.{◌+◌, length, ap}
use Rattle.opgen_num.specs.Words.{nat}
use Rattle.opgen_design.specs.Tree.{bits}
use Rattle.opgen_machine.specs.Layout.{spots_of}
use Rattle.opgen_machine.specs.declared.step.Step.TheVariants.{Constant}
use Rattle.opgen_machine.specs.Programs.{Spots}
use Rattle.opgen_machine.specs.Emit.{Emitted, width_over}
use Rattle.opgen_machine.proofs.Emitted.{emitted-bits}
use Rattle.opgen_machine.proofs.Narrow.{narrow-some}
use Rattle.opgen_machine.proofs.Puts.{put-gives}
use Rattle.opgen_machine.proofs.expression.constant.Goals as goal

pub returns : goal.returns
returns c =
    let base = c.args.base in
    let spots : Spots = spots_of c.args.spots.now in
    let old = c.args.steps.now.items in
    let x = c.args.word in
    put-gives c.put.result (Emitted base spots (bits x) old) old c.put.new.steps.items (Constant c.bits.result) (Constant (nat x))
    (base + length old) c.width.result (length x)
    c.put.ensures.steps c.put.ensures.spot (ap Constant c.bits.ensures) c.width.ensures
    (emitted-bits base spots old c.requires.fine c.requires.spots x (narrow-some (width_over spots (bits x)) c.requires.fits))
