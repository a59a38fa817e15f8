use Rattle.opgen_operator.proofs.Accepted.{accepted_room}
use Rattle.opgen_part_laws.proofs.operators.accepted_have_room.Goals as goal

pub returns : goal.returns
returns c = accepted_room
