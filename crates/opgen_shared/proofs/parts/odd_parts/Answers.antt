use Rattle.std.proofs.Common.{sym, subst}
use Rattle.std.proofs.lemmas.List.Filters.{dedup_is}
use Rattle.opgen_graph.specs.Targets.{AreTargetsOf}
use Rattle.opgen_graph.proofs.TargetLists.{are_targets}
use Rattle.opgen_shared.proofs.Costs.{each_wide}
use Rattle.opgen_shared.proofs.parts.odd_parts.Goals as goal

pub returns-clause-parts : goal.returns-clause-parts
returns-clause-parts c =
    subst (AreTargetsOf c.args.numbers.now) (sym (dedup_is _ _ _ c.dedup.ensures.filtered))
    (are_targets c.args.numbers.now _ _ c.in_ok-found.ensures c.sort_unstable.ensures.permutation c.sort_unstable.ensures.sorted)

pub returns-clause-each : goal.returns-clause-each
returns-clause-each c = each_wide c.args.numbers.now _ c.requires (returns-clause-parts c)
