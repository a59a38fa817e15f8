use Rattle.opgen_kinds.proofs.of_kind.Sum.{multiple_accepted}
use Rattle.opgen_operator.proofs.operator.Operator.outputs.Goals as goal

pub outputs-requires : goal.outputs-requires
outputs-requires c = multiple_accepted c.in-Scale.sum (rw c.in-Scale.is at c.requires)
