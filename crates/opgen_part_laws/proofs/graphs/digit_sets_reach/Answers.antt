use Rattle.opgen_graph.proofs.SignedSets.{digit_sets_reach}
use Rattle.opgen_part_laws.proofs.graphs.digit_sets_reach.Goals as goal

pub returns : goal.returns
returns c = digit_sets_reach
