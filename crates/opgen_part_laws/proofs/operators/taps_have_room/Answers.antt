use Rattle.opgen_kinds.proofs.of_kind.Taps.{taps_have_room}
use Rattle.opgen_part_laws.proofs.operators.taps_have_room.Goals as goal

pub returns : goal.returns
returns c = taps_have_room
