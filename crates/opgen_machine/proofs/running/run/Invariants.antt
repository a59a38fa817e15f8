use Rattle.std.proofs.Common.{◌≡◌, ◌+◌, take, drop}
use Rattle.opgen_machine.specs.Steps.{exec}
use Rattle.opgen_machine.proofs.running.run.Given as goal

abbrev pub invariant-loop-i : goal.invariant-loop-i
invariant-loop-i l = exec (drop l.i l.steps) (take (l.from + l.i) l.words) ≡ exec l.steps (take l.from l.initial.words)
