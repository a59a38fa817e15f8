use Rattle.std.proofs.Common.{◌≡◌, ◌++◌}
use Rattle.opgen_target.specs.Program.{delays_of}
use Rattle.opgen_target.proofs.program.push_delays.Given as goal

abbrev pub invariant-widths : goal.invariant-widths
invariant-widths l = l.delays.items ≡ l.initial.delays.items ++ delays_of l.class l.place
