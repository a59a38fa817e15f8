use Rattle.std.proofs.Common.{refl, arith}
use Rattle.opgen_search.proofs.Choices.{more_odds, all_odds}
use Rattle.opgen_search.proofs.part.odds_below.Goals as goal

pub loop-half-preserved : goal.loop-half-preserved
loop-half-preserved c =
    rw c.in_ok-push.ensures.items
    (more_odds c.args.limit c.loop-half.half _ c.loop-half.odds.items c.loop-half.invariant.1 c.loop-half-test.true refl c.loop-half.invariant.0, omega (arith, c.loop-half.invariant.1))

pub returns : goal.returns
returns c = all_odds c.args.limit c.loop-half.half c.loop-half.odds.items c.loop-half-test.false c.loop-half.invariant.0
