use Rattle.opgen_design.specs.Rules.{HoldsBefore}
use Rattle.opgen_design.specs.declared.sound.Rule.TheVariants.{ReadsOutput}
use Rattle.opgen_design.specs.Sound.{DriverPasses}
use Rattle.opgen_design.proofs.design.Design.reads_output.Given as goal

abbrev pub invariant-loop-i : goal.invariant-loop-i
invariant-loop-i l = HoldsBefore (DriverPasses l.self ReadsOutput) l.self.drivers l.i
