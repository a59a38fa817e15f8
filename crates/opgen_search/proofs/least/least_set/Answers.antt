use Rattle.std.proofs.lemmas.Result.{IfOk-weaker}
use Rattle.opgen_search.proofs.Ending.{empty_least, no_items}
use Rattle.opgen_search.proofs.Closing.{space_reaches}
use Rattle.opgen_search.proofs.least.least_set.Goals as goal

pub returns-then-is_empty-clause-least : goal.returns-then-is_empty-clause-least
returns-then-is_empty-clause-least g c = empty_least c.args.targets.now c.args.width c.args.extra c.new.result.items
    (no_items c.args.targets.now c.if-is_empty.ensures) c.new.ensures.items

pub returns-clause-reaches : goal.returns-clause-reaches
returns-clause-reaches g c = let least = rw c.in_ok-search.ensures.targets at c.least_of.ensures in
    IfOk-weaker c.least_of.result _ _ (λ set l. space_reaches c.args.targets.now _ set.items c.requires.targets l.member) least
