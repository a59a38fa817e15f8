use Rattle.opgen_design.specs.Rules.{HoldsBefore}
use Rattle.opgen_design.specs.declared.sound.Rule.TheVariants.{Width}
use Rattle.opgen_design.specs.Sound.{PortPasses}
use Rattle.opgen_design.proofs.design.Design.wrong_port.Given as goal

abbrev pub invariant-loop-i : goal.invariant-loop-i
invariant-loop-i l = HoldsBefore (PortPasses l.self Width) l.self.ports l.i
