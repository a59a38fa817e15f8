use Rattle.opgen_design.specs.Rules.{HoldsBefore}
use Rattle.opgen_design.specs.declared.sound.Rule.TheVariants.{DrivenTwice}
use Rattle.opgen_design.specs.Sound.{DriverPasses}
use Rattle.opgen_design.proofs.design.Design.driven_twice.Given as goal

abbrev pub invariant-loop-i : goal.invariant-loop-i
invariant-loop-i l = HoldsBefore (DriverPasses l.self DrivenTwice) l.self.drivers l.i
