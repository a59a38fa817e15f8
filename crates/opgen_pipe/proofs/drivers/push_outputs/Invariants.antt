use Rattle.std.proofs.Common.{◌≡◌, ◌++◌, ◌+◌, drop}
use Rattle.opgen_pipe.specs.Pipelined.{output_drivers}
use Rattle.opgen_pipe.proofs.drivers.push_outputs.Given as goal

abbrev pub invariant-outputs : goal.invariant-outputs
invariant-outputs l =
    l.drivers ++ output_drivers l.standings l.latency (l.first + l.place) (drop l.place l.outputs)
    ≡ l.initial.drivers ++ output_drivers l.standings l.latency l.first l.outputs
