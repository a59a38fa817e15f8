use Rattle.opgen_kinds.proofs.of_kind.Sum.{multiple_accepted}
use Rattle.opgen_operator.proofs.operator.Operator.plain_output.Goals as goal

pub output-requires : goal.output-requires
output-requires c = multiple_accepted c.in-Scale.sum (rw c.in-Scale.is at c.requires)
