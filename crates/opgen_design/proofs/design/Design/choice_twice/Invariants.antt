use Rattle.opgen_design.specs.Rules.{HoldsBefore}
use Rattle.opgen_design.specs.declared.sound.Rule.TheVariants.{ChoiceTwice}
use Rattle.opgen_design.specs.Sound.{DriverPasses}
use Rattle.opgen_design.proofs.design.Design.choice_twice.Given as goal

abbrev pub invariant-loop-i : goal.invariant-loop-i
invariant-loop-i l = HoldsBefore (DriverPasses l.self ChoiceTwice) l.self.drivers l.i
