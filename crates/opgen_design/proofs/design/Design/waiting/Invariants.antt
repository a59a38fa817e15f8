use Rattle.std.proofs.Common.{◌≡◌, ◌++◌, drop}
use Rattle.opgen_design.specs.Order.{waiting}
use Rattle.opgen_design.proofs.design.Design.waiting.Given as goal

abbrev pub invariant-loop-i : goal.invariant-loop-i
invariant-loop-i l = l.found.items ++ waiting l.i (drop l.i l.self.drivers) ≡ waiting 0 l.self.drivers
