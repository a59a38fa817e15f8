use Rattle.opgen_design.proofs.SoundLaws.{declared-at}
use Rattle.opgen_design.proofs.design.Design.wrong_driver.Goals as goal

pub widths_agree-requires : goal.widths_agree-requires
widths_agree-requires c = (declared-at c.args.self.now c.requires c.loop-i.i c.get.result.now c.get.ensures).target
