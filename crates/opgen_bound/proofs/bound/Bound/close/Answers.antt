use Rattle.opgen_bound.proofs.Closing.{closes, closes_seen}
use Rattle.opgen_bound.proofs.bound.Bound.close.Goals as goal

pub returns-clause-least : goal.returns-clause-least
returns-clause-least c = closes _ _ _ _ _ _ _ c.close_with-closed.ensures.values.2 c.requires.all c.word-word.ensures

pub returns-clause-falls : goal.returns-clause-falls
returns-clause-falls c = closes_seen _ _ _ _ _ _ _ c.close_with-closed.ensures.values.2 c.word-word.ensures
