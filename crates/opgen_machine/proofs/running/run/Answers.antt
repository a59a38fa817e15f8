use Rattle.std.proofs.Common.{◌≡◌, ◌+◌, ◌≤◌, length, get_or, ◌∙◌, arith}
use Rattle.opgen_machine.specs.declared.step.Step.TheVariants.{Constant}
use Rattle.opgen_machine.proofs.Exec.{fine-at, reads-more, turn}
use Rattle.opgen_machine.proofs.running.run.Goals as goal

pub act-requires : goal.act-requires
act-requires c =
    let i = c.loop-i.i in
    let within : c.args.from + i ≤ length c.loop-i.words = omega arith in
    reads-more (c.args.from + i) (length c.loop-i.words) within (get_or c.args.steps.now i (Constant 0))
    (fine-at c.args.from c.args.steps.now i (Constant 0) c.requires.fine c.loop-i-test.true)

pub loop-i-preserved : goal.loop-i-preserved
loop-i-preserved c =
    let room : length c.loop-i.words ≡ c.args.from + length c.args.steps.now = omega arith in
    turn c.args.steps.now (Constant 0) c.args.from c.loop-i.i c.loop-i.words c.act.result c.loop-i-test.true c.requires.fine room
    c.act.ensures ∙ c.loop-i.invariant
