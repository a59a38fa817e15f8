use Rattle.opgen_design.specs.Order.{AreRanks}
use Rattle.opgen_design.proofs.design.Design.ranks.Given as goal

abbrev pub invariant-loop-i : goal.invariant-loop-i
invariant-loop-i l = AreRanks l.self l.groups l.i l.ranks.items
