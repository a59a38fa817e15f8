use Rattle.std.proofs.Common.{◌+◌, ◌-◌, ◌*◌}
use Rattle.opgen_search.proofs.fork.+fn-run_pieces-join+arg2+fn-run_pieces-join+arg3+run_pieces.Given as goal

abbrev pub decreases-join+arg2 : goal.decreases-join+arg2
decreases-join+arg2 g l = 2 * (l.middle - l.low) + 1

abbrev pub decreases-join+arg3 : goal.decreases-join+arg3
decreases-join+arg3 g l = 2 * (l.high - l.middle) + 1

abbrev pub decreases-run_pieces : goal.decreases-run_pieces
decreases-run_pieces g l = 2 * (l.task.high - l.task.low)
