use Rattle.std.proofs.Common.{◌≡◌, ◌++◌}
use Rattle.std.specs.Prelude.{replicate}
use Rattle.opgen_machine.proofs.machine.push_zeros.Given as goal

abbrev pub invariant-loop-pushed : goal.invariant-loop-pushed
invariant-loop-pushed l = l.memory.items ≡ l.initial.memory.items ++ replicate l.pushed 0
