use Rattle.std.proofs.Common.{take}
use Rattle.opgen_search.proofs.Choices.{HasOwn}
use Rattle.opgen_search.proofs.part.own_odds.Given as goal

abbrev pub invariant-loop-odd : goal.invariant-loop-odd
invariant-loop-odd l = HasOwn l.search l.piece (take l.odd-index l.odd-items) l.own.items
