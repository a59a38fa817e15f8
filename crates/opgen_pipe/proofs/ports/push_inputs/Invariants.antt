use Rattle.std.proofs.Common.{◌≡◌, ◌++◌, take, map}
use Rattle.opgen_net.specs.Made.{input_port}
use Rattle.opgen_pipe.proofs.ports.push_inputs.Given as goal

abbrev pub invariant-inputs : goal.invariant-inputs
invariant-inputs l = l.ports ≡ l.initial.ports ++ map input_port (take l.name-index l.inputs)
