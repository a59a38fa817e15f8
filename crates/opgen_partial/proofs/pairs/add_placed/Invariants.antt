use Rattle.std.proofs.Common.{◌≡◌}
use Rattle.opgen_net.specs.Valid.{IsValid}
use Rattle.opgen_partial.specs.Law.{AreFactors}
use Rattle.opgen_partial.specs.Recipe.{with_rows}
use Rattle.opgen_partial.proofs.pairs.add_placed.Given as goal

abbrev pub invariant-rows : goal.invariant-rows
invariant-rows l = (l.work ≡ with_rows l.products l.placing l.i l.fn.work) × IsValid l.work.net × AreFactors l.products l.work.net
