use Rattle.std.proofs.Common.{ℕ, ◌<◌, get_or}
use Rattle.opgen_terms.specs.declared.sop.Times.{Times}
use Rattle.opgen_terms.specs.Sop.{IsTimes}
use Rattle.opgen_terms.proofs.sop.are_times.Given as goal

abbrev pub invariant-products : goal.invariant-products
invariant-products l = (k : ℕ) (d : Times) → k < l.term-index → IsTimes l.inputs (get_or l.products k d)
