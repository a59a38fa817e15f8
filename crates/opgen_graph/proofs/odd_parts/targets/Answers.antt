use Rattle.std.proofs.Common.{sym, subst}
use Rattle.std.proofs.lemmas.List.Filters.{dedup_is}
use Rattle.opgen_graph.specs.Targets.{AreTargetsOf}
use Rattle.opgen_graph.proofs.PartLists.{few_targets}
use Rattle.opgen_graph.proofs.TargetLists.{are_targets, each_target}
use Rattle.opgen_graph.proofs.odd_parts.targets.Goals as goal

pub returns-clause-targets : goal.returns-clause-targets
returns-clause-targets c =
    subst (AreTargetsOf c.args.constants.now) (sym (dedup_is _ _ _ c.dedup.ensures.filtered))
    (are_targets c.args.constants.now _ _ c.in_ok-found.ensures.parts c.sort_unstable.ensures.permutation c.sort_unstable.ensures.sorted)

pub returns-clause-each : goal.returns-clause-each
returns-clause-each c = each_target c.args.constants.now _ c.requires (returns-clause-targets c)

pub returns-clause-few : goal.returns-clause-few
returns-clause-few c = few_targets c.args.constants.now _ (returns-clause-targets c)
