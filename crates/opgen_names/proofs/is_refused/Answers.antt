use Rattle.opgen_names.specs.Names.{refused_words}
use Rattle.opgen_names.proofs.is_refused.Goals as goal

pub returns : goal.returns
unfolding refused_words
returns c = c.contains.ensures.value
