use Rattle.std.proofs.Common.{◌≡◌, ◌+◌, ◌*◌, ◌≤◌, drop}
use Rattle.opgen_sop.specs.Sizes.{floors_in}
use Rattle.opgen_sop.proofs.budget.products_floors.Given as goal

abbrev pub invariant-terms : goal.invariant-terms
invariant-terms l = (l.count + floors_in l.sop l.guard (drop l.term-index l.sop.products) ≡ floors_in l.sop l.guard l.sop.products) × (l.count ≤ 49 * l.term-index)
