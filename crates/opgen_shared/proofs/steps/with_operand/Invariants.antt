use Rattle.std.proofs.Common.{◌≡◌, ◌*◌, ◌^◌, ◌-◌, ◌≤◌, ◌<◌}
use Rattle.opgen_shared.specs.Steps.{IsCandidate, IsNotAfter, IsLeastOf}
use Rattle.opgen_shared.proofs.Covering.{IsBelow}
use Rattle.opgen_shared.proofs.steps.with_operand.Given as goal

abbrev pub invariant-shifts : goal.invariant-shifts
invariant-shifts l = record {
  candidate : IsCandidate l.sums.adders l.number l.least;
  kept : IsNotAfter l.sums.adders l.least.adder l.fn.best.adder;
  second : IsLeastOf l.sums.adders l.number (λ a. a.v ≡ l.operand) l.least;
  below : IsLeastOf l.sums.adders l.number (IsBelow l.operand l.shift) l.least;
  some : 1 ≤ l.shift;
  few : l.shift < l.size;
  size : l.size ≡ 2 ^ l.shift * l.operand;
  small : l.size < 2 ^ 23;
}

abbrev pub decreases-shifts : goal.decreases-shifts
decreases-shifts l = 2 ^ 23 - l.size
