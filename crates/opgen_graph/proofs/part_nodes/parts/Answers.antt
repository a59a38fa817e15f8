use Rattle.std.proofs.Common.{◌∙◌}
use Rattle.std.proofs.lemmas.List.Filters.{dedup_is}
use Rattle.opgen_graph.proofs.PartLists.{are_parts}
use Rattle.opgen_graph.proofs.part_nodes.parts.Goals as goal

pub returns : goal.returns
returns c =
    dedup_is _ _ _ c.dedup.ensures.filtered
    ∙ are_parts c.args.numbers.now _ _ c.in_ok-found.ensures c.sort_unstable.ensures.permutation c.sort_unstable.ensures.sorted
