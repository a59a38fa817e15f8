use Rattle.opgen_heap.proofs.Standing.{bits-still_stand}
use Rattle.opgen_part_laws.proofs.nets.bits_still_stand.Goals as goal

pub returns : goal.returns
returns c = bits-still_stand
