use Rattle.opgen_design.specs.Rules.{HoldsBefore}
use Rattle.opgen_design.specs.declared.sound.Rule.TheVariants.{NoInitial}
use Rattle.opgen_design.specs.Sound.{SignalPasses}
use Rattle.opgen_design.proofs.design.Design.no_initial.Given as goal

abbrev pub invariant-loop-i : goal.invariant-loop-i
invariant-loop-i l = HoldsBefore (SignalPasses l.self NoInitial) l.self.signals l.i
