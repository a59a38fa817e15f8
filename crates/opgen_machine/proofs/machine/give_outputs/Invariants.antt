use Rattle.std.proofs.Common.{◌≡◌, take, map, get_or}
use Rattle.opgen_machine.proofs.machine.give_outputs.Given as goal

abbrev pub invariant-loop-i : goal.invariant-loop-i
invariant-loop-i l = take l.i l.outputs ≡ map (λ p. get_or l.memory p 0) (take l.i l.places)
