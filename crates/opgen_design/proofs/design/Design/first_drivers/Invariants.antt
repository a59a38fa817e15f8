use Rattle.opgen_design.specs.Rules.{AreFirstDrivers}
use Rattle.opgen_design.proofs.design.Design.first_drivers.Given as goal

abbrev pub invariant-loop-i : goal.invariant-loop-i
invariant-loop-i l = AreFirstDrivers l.self l.i l.firsts.items
