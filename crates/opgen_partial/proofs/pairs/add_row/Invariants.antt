use Rattle.std.proofs.Common.{◌≡◌}
use Rattle.opgen_net.specs.Valid.{IsValid}
use Rattle.opgen_partial.specs.Law.{AreFactors}
use Rattle.opgen_partial.specs.Recipe.{with_row}
use Rattle.opgen_partial.proofs.pairs.add_row.Given as goal

abbrev pub invariant-row : goal.invariant-row
invariant-row l = (l.work ≡ with_row l.products l.placing l.i l.j l.fn.work) × IsValid l.work.net × AreFactors l.products l.work.net
