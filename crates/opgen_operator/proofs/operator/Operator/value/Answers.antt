use Rattle.std.proofs.Common.{Some, ap}
use Rattle.opgen_kinds.proofs.of_kind.Sum.{multiple_accepted}
use Rattle.opgen_operator.proofs.operator.Operator.value.Goals as goal

pub value-requires-clause-accepted : goal.value-requires-clause-accepted
value-requires-clause-accepted c = multiple_accepted c.in-Scale.sum (rw c.in-Scale.is at c.requires.accepted)

pub returns-in-Sop-clause-value : goal.returns-in-Sop-clause-value
returns-in-Sop-clause-value c = rw c.in-Sop.is (ap Some c.value-in-Sop.ensures.value)
