use Rattle.std.proofs.Common.{◌≡◌, ◌+◌, ◌++◌, take, drop}
use Rattle.opgen_machine.proofs.machine.take_inputs.Given as goal

abbrev pub invariant-loop-i : goal.invariant-loop-i
invariant-loop-i l = l.memory ≡ take l.at l.initial.memory ++ take l.i l.inputs ++ drop (l.at + l.i) l.initial.memory
