use Rattle.std.proofs.Common.{◌-◌, ◌≤◌, length}
use Rattle.opgen_machine.proofs.expression.near.Given as goal

abbrev pub invariant-loop-index : goal.invariant-loop-index
invariant-loop-index l = l.index ≤ length l.steps

abbrev pub decreases-loop-index : goal.decreases-loop-index
decreases-loop-index l = l.index - l.first
