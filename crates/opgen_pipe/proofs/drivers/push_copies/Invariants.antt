use Rattle.std.proofs.Common.{◌≡◌, ◌++◌, map}
use Rattle.std.specs.List.{range_with_len}
use Rattle.opgen_pipe.specs.Pipelined.{copy_register}
use Rattle.opgen_pipe.proofs.drivers.push_copies.Given as goal

abbrev pub invariant-copies : goal.invariant-copies
invariant-copies l = l.drivers ≡ l.initial.drivers ++ map (copy_register l.own) (range_with_len 0 l.copy)
