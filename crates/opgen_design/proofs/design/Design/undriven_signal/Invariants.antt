use Rattle.opgen_design.specs.Rules.{HoldsBefore}
use Rattle.opgen_design.specs.declared.sound.Rule.TheVariants.{NotDriven}
use Rattle.opgen_design.specs.Sound.{SignalPasses}
use Rattle.opgen_design.proofs.design.Design.undriven_signal.Given as goal

abbrev pub invariant-loop-i : goal.invariant-loop-i
invariant-loop-i l = HoldsBefore (SignalPasses l.self NotDriven) l.self.signals l.i
