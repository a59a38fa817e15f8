use Rattle.opgen_operator.specs.GivenNames.{later_words}
use Rattle.opgen_operator.proofs.given_names.is_later_word.Goals as goal

pub returns : goal.returns
unfolding later_words
returns c = c.contains.ensures.value
