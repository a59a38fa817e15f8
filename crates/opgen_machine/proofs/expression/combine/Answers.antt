use Rattle.std.proofs.Common.{◌+◌, length, arith}
use Rattle.opgen_machine.specs.Programs.{AreSpots, Spots}
use Rattle.opgen_machine.specs.Emit.{Combined, step_of, width_of}
use Rattle.opgen_machine.proofs.Gives.{combined-of}
use Rattle.opgen_machine.proofs.Narrow.{narrow-of, joined-wider}
use Rattle.opgen_design.specs.Value.{joined}
use Rattle.opgen_machine.proofs.Puts.{put-gives}
use Rattle.opgen_machine.proofs.expression.combine.Goals as goal

pub step_of-step-requires : goal.step_of-step-requires
step_of-step-requires c =
    let a = c.args.first.width in
    let b = c.args.second.width in
    let n = narrow-of (joined c.args.op a b) c.requires.joins in
    omega (arith, n.2, (joined-wider c.args.op a b n.0 n.1).0)

pub returns : goal.returns
returns c =
    let base = c.args.base in
    let old = c.args.steps.now.items in
    let op = c.args.op in
    let a = c.args.first in
    let b = c.args.second in
    put-gives c.put.result (λ new s. (spots : Spots) → AreSpots (base + length old) spots → Combined base spots op a b old new s) old c.put.new.steps.items c.step_of-step.result (step_of op a b)
    (base + length old) c.width_of-width.result (width_of op a.width b.width)
    c.put.ensures.steps c.put.ensures.spot c.step_of-step.ensures c.width_of-width.ensures
    (λ spots are. combined-of base spots old c.requires.fine are op a b c.requires.joins c.requires.width c.requires.second_width
    c.requires.first c.requires.second)
