use Rattle.std.proofs.Common.{◌≡◌, ◌++◌, map}
use Rattle.std.specs.List.{range_with_len}
use Rattle.opgen_pipe.specs.Pipelined.{copy_signal}
use Rattle.opgen_pipe.proofs.signals.push_copies.Given as goal

abbrev pub invariant-copies : goal.invariant-copies
invariant-copies l = l.signals ≡ l.initial.signals ++ map (copy_signal l.zero l.own l.node) (range_with_len 1 l.copy)
