use Rattle.std.proofs.Common.{sym, subst}
use Rattle.std.proofs.lemmas.List.Filters.{dedup_is}
use Rattle.opgen_graph.specs.SignedDigits.{IsDigitSet}
use Rattle.opgen_graph.proofs.SignedSets.{covers_more, digit_set, digit_sets_reach}
use Rattle.opgen_graph.proofs.digit_set.csd_set.Goals as goal

pub loop-target-preserved : goal.loop-target-preserved
loop-target-preserved c = covers_more _ _ _ _ c.loop-target-test.true c.loop-target.invariant c.in_ok-append_partials.ensures

pub returns-clause-set : goal.returns-clause-set
returns-clause-set c = subst (IsDigitSet c.args.targets.now) (sym (dedup_is _ _ _ c.dedup.ensures.filtered))
    (digit_set _ _ _ _ c.loop-target-test.false c.loop-target.invariant c.sort_unstable.ensures.permutation c.sort_unstable.ensures.sorted)

pub returns-clause-reaches : goal.returns-clause-reaches
returns-clause-reaches c = digit_sets_reach _ _ c.requires (returns-clause-set c)
