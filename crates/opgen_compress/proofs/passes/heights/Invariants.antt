use Rattle.std.proofs.Common.{◌-◌}
use Rattle.opgen_compress.proofs.Heights.{Rising}
use Rattle.opgen_compress.proofs.passes.heights.Given as goal

abbrev pub invariant-rising : goal.invariant-rising
invariant-rising l = Rising l.bits l.height l.all.items

abbrev pub decreases-rising : goal.decreases-rising
decreases-rising l = l.bits - l.height
