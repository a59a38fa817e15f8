use Rattle.std.proofs.Common.{◌≡◌, ◌≤◌, ◌^◌, ◌<◌, ℕ, drop, length, get_or}
use Rattle.opgen_machine.specs.Laid.{number_at}
use Rattle.opgen_machine.proofs.tables.numbers.Given as goal

abbrev pub invariant-loop-left : goal.invariant-loop-left
invariant-loop-left l = record {
  within : l.left ≤ length l.rows;
  length : length l.numbers.items ≡ 2 ^ l.bits;
  numbers : (n : ℕ) → n < 2 ^ l.bits → get_or l.numbers.items n 0 ≡ number_at (drop l.left l.rows) l.fn.other n;
}

abbrev pub decreases-loop-left : goal.decreases-loop-left
decreases-loop-left l = l.left
