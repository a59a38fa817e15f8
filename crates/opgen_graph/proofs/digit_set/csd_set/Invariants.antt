use Rattle.std.proofs.Common.{◌↔◌, ℕ, Contains, take}
use Rattle.opgen_graph.specs.SignedDigits.{IsPartialOf}
use Rattle.opgen_graph.proofs.digit_set.csd_set.Given as goal

abbrev pub invariant-loop-target : goal.invariant-loop-target
invariant-loop-target l = (x : ℕ) → Contains l.set.items x ↔ ((t : ℕ) × Contains (take l.target-index l.targets) t × IsPartialOf t x)
