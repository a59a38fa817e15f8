use Rattle.std.proofs.Common.{◌≡◌, [], drop}
use Rattle.opgen_sop.specs.Recipe.{with_all_times}
use Rattle.opgen_sop.specs.Summed.{Stands, AreSummed}
use Rattle.opgen_sop.proofs.products.add_all_times.Given as goal

abbrev pub invariant-terms : goal.invariant-terms
invariant-terms l = record {
  made : with_all_times l.sop l.guard (drop l.term-index l.sop.products) l.work ≡ with_all_times l.sop l.guard l.sop.products l.initial.work;
  stands : Stands l.sop l.guard l.work;
  summed : AreSummed l.sop l.guard [] (drop l.term-index l.sop.products) l.work;
}
