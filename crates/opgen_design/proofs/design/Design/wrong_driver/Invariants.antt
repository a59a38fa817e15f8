use Rattle.opgen_design.specs.Rules.{HoldsBefore}
use Rattle.opgen_design.specs.declared.sound.Rule.TheVariants.{Width}
use Rattle.opgen_design.specs.Sound.{DriverPasses}
use Rattle.opgen_design.proofs.design.Design.wrong_driver.Given as goal

abbrev pub invariant-loop-i : goal.invariant-loop-i
invariant-loop-i l = HoldsBefore (DriverPasses l.self Width) l.self.drivers l.i
