use Rattle.std.proofs.Common.{ℕ, ◌<◌, get_or}
use Rattle.opgen_terms.specs.declared.sop.Scaled.{Scaled}
use Rattle.opgen_terms.specs.Sop.{IsScaled}
use Rattle.opgen_terms.proofs.sop.are_scaled.Given as goal

abbrev pub invariant-scaled : goal.invariant-scaled
invariant-scaled l = (k : ℕ) (d : Scaled) → k < l.term-index → IsScaled l.inputs (get_or l.scaled k d)
