use Rattle.std.proofs.Common.{◌≡◌, ◌++◌}
use Rattle.std.specs.Prelude.{replicate}
use Rattle.opgen_pipe.specs.Cells.{register_of}
use Rattle.opgen_pipe.proofs.cells.push_registers.Given as goal

abbrev pub invariant-copies : goal.invariant-copies
invariant-copies l = l.cells.items ≡ l.initial.cells.items ++ replicate l.counter (register_of l.width)
