use Rattle.std.proofs.Common.{length}
use Rattle.opgen_lanes.proofs.tables.+put_rows.Given as goal

abbrev pub decreases-put_rows : goal.decreases-put_rows
decreases-put_rows l = length l.address.now
