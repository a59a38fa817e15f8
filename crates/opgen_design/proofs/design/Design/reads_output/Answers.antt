use Rattle.std.proofs.Common.{arith}
use Rattle.opgen_design.specs.declared.sound.Rule.TheVariants.{ReadsOutput}
use Rattle.opgen_design.specs.Sound.{DriverPasses}
use Rattle.opgen_design.proofs.FirstFailing.{none-failing}
use Rattle.opgen_design.proofs.SoundLaws.{declared-at}
use Rattle.opgen_design.proofs.design.Design.reads_output.Goals as goal

pub reads_inputs-requires : goal.reads_inputs-requires
reads_inputs-requires c = declared-at c.args.self.now c.requires c.loop-i.i c.get.result.now c.get.ensures

pub returns : goal.returns
returns c =
    let d = c.args.self.now in
    none-failing (DriverPasses d ReadsOutput) d.drivers c.loop-i.i
    (omega (arith, c.loop-i-test.false, c.len-i-end.ensures)) c.loop-i.invariant
