use Rattle.std.proofs.Common.{length}
use Rattle.opgen_top.proofs.store_all.+store_all.Given as goal

abbrev pub decreases-store_all : goal.decreases-store_all
decreases-store_all g l = length l.files.now
