use Rattle.std.proofs.Common.{length}
use Rattle.opgen_pieces.proofs.pieces.+add_pieces.Given as goal

abbrev pub decreases-add_pieces : goal.decreases-add_pieces
decreases-add_pieces l = length l.sum.first.now
