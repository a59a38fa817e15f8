use Rattle.std.proofs.Common.{ℕ, ◌+◌, ◌-◌, ◌^◌, ◌<◌, ◌≤◌}
use Rattle.opgen_sop.specs.Sizes.{tables, floors}
use Rattle.opgen_sop.proofs.budget.guard_bits.Given as goal

abbrev pub invariant-bits : goal.invariant-bits
invariant-bits l = (l.guard ≤ 11) × ((g : ℕ) → g < l.guard → 2 ^ g ≤ tables l.sop g + floors l.sop g)

abbrev pub decreases-bits : goal.decreases-bits
decreases-bits l = 11 - l.guard
