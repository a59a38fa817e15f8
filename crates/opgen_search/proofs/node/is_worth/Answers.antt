use Rattle.std.proofs.Common.{arith}
use Rattle.opgen_search.proofs.NodeLaws.{some_left}
use Rattle.opgen_search.proofs.node.is_worth.Goals as goal

pub returns-else-helps-clause-useless : goal.returns-else-helps-clause-useless
returns-else-helps-clause-useless c = λ f _. (omega (arith, c.if-more-gt1.false), some_left _ c.if-is_empty.ensures, c.helps.ensures f)

pub returns-then-makes_among-clause-useless : goal.returns-then-makes_among-clause-useless
returns-then-makes_among-clause-useless c =
    λ f _. (omega (arith, c.if-more-gt1.false), some_left _ c.if-is_empty.ensures, c.helps-then-makes_among.ensures f)
