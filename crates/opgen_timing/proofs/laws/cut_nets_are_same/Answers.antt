use Rattle.opgen_timing.proofs.Made.{cut_nets_are_same}
use Rattle.opgen_timing.proofs.laws.cut_nets_are_same.Goals as goal

pub returns : goal.returns
returns c = cut_nets_are_same
