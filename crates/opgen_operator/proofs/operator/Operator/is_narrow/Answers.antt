use Rattle.opgen_operator.proofs.Operators.{room}
use Rattle.opgen_operator.proofs.operator.Operator.is_narrow.Goals as goal

pub need-requires-clause-room : goal.need-requires-clause-room
need-requires-clause-room c = room c.args.version c.args.self.now c.requires.inputs c.requires.high
