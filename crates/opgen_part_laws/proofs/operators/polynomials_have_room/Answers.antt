use Rattle.opgen_kinds.proofs.of_kind.Results.{polys_room}
use Rattle.opgen_part_laws.proofs.operators.polynomials_have_room.Goals as goal

pub returns : goal.returns
returns c = polys_room
