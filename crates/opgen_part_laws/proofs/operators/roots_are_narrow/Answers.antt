use Rattle.opgen_kinds.proofs.of_kind.Single.{roots_narrow}
use Rattle.opgen_part_laws.proofs.operators.roots_are_narrow.Goals as goal

pub returns : goal.returns
returns c = roots_narrow
