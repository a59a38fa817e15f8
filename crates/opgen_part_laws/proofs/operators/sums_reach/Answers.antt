use Rattle.opgen_kinds.proofs.of_kind.Sum.{sums_span}
use Rattle.opgen_part_laws.proofs.operators.sums_reach.Goals as goal

pub returns : goal.returns
returns c = sums_span
