use Rattle.std.proofs.Common.{◌≡◌, ◌++◌, drop}
use Rattle.opgen_net.specs.Made.{addressed}
use Rattle.opgen_pipe.proofs.drivers.addressed.Given as goal

abbrev pub invariant-rows : goal.invariant-rows
invariant-rows l = l.pairs ++ addressed l.width l.address (drop l.address l.rows) ≡ addressed l.width 0 l.rows
