use Rattle.opgen_kinds.proofs.of_kind.Sum.{entries_small}
use Rattle.opgen_operator.proofs.laws.entries_are_small.Goals as goal

pub returns : goal.returns
returns c = entries_small
