use Rattle.std.proofs.Common.{◌≡◌, ◌++◌, take, map}
use Rattle.opgen_net.specs.Made.{output_port}
use Rattle.opgen_pipe.proofs.ports.push_outputs.Given as goal

abbrev pub invariant-outputs : goal.invariant-outputs
invariant-outputs l = l.ports ≡ l.initial.ports ++ map output_port (take l.output-index l.outputs)
