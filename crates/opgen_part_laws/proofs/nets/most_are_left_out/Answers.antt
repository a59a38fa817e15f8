use Rattle.opgen_poly.proofs.Cuts.{cut-greatest}
use Rattle.opgen_part_laws.proofs.nets.most_are_left_out.Goals as goal

pub returns : goal.returns
returns c = cut-greatest
