use Rattle.std.proofs.Common.{◌≡◌, ◌+◌, ◌*◌, ◌≤◌, drop}
use Rattle.opgen_sop.specs.Sizes.{tables_in}
use Rattle.opgen_sop.proofs.budget.tables.Given as goal

abbrev pub invariant-terms : goal.invariant-terms
invariant-terms l = (l.count + tables_in l.sop l.guard (drop l.term-index l.sop.scaled) ≡ tables_in l.sop l.guard l.sop.scaled) × (l.count ≤ 8 * l.term-index)
