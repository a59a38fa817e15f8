use Rattle.std.proofs.Common.{◌≡◌, drop}
use Rattle.opgen_sop.specs.Recipe.{with_all_scaled}
use Rattle.opgen_sop.specs.Summed.{Stands, AreSummed}
use Rattle.opgen_sop.proofs.scaled.add_all_scaled.Given as goal

abbrev pub invariant-terms : goal.invariant-terms
invariant-terms l = record {
  made : with_all_scaled l.sop l.guard (drop l.term-index l.sop.scaled) l.work ≡ with_all_scaled l.sop l.guard l.sop.scaled l.initial.work;
  stands : Stands l.sop l.guard l.work;
  summed : AreSummed l.sop l.guard (drop l.term-index l.sop.scaled) l.sop.products l.work;
}
