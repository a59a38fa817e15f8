use Rattle.std.proofs.Common.{◌≡◌, ◌≤◌, length, drop, reverse}
use Rattle.opgen_net.specs.WordRule.{runs}
use Rattle.opgen_pieces.specs.Run.{net_runs}
use Rattle.opgen_pieces.proofs.operand.runs_of.Given as goal

abbrev pub invariant-bits : goal.invariant-bits
invariant-bits l = (l.rest ≤ length l.bits) × (net_runs (reverse l.found.items) ≡ runs (drop l.rest l.bits))

abbrev pub decreases-bits : goal.decreases-bits
decreases-bits l = l.rest
