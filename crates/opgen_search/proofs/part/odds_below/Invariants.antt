use Rattle.std.proofs.Common.{◌≤◌}
use Rattle.opgen_search.proofs.Choices.{HasOdds}
use Rattle.opgen_search.proofs.part.odds_below.Given as goal

abbrev pub invariant-loop-half : goal.invariant-loop-half
invariant-loop-half l = HasOdds l.limit l.half l.odds.items × (1 ≤ l.half)
