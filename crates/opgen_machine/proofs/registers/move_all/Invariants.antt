use Rattle.std.proofs.Common.{◌≡◌, drop, length}
use Rattle.opgen_machine.specs.Moves.{move_all}
use Rattle.opgen_machine.proofs.registers.move_all.Given as goal

abbrev pub invariant-loop-item : goal.invariant-loop-item
invariant-loop-item l = record {
  moved : move_all (drop l.item-index l.moves) l.memory ≡ move_all l.moves l.initial.memory;
  length : length l.memory ≡ length l.initial.memory;
}
