use Rattle.opgen_operator.specs.GivenNames.{taken_names}
use Rattle.opgen_operator.proofs.given_names.is_taken.Goals as goal

pub returns : goal.returns
unfolding taken_names
returns c = c.contains.ensures.value
