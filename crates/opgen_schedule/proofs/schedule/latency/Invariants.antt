use Rattle.std.proofs.Common.{◌≡◌, drop}
use Rattle.std.specs.Prelude.{max}
use Rattle.opgen_schedule.specs.Schedule.{latency}
use Rattle.opgen_schedule.specs.Stage.{slot_at}
use Rattle.opgen_schedule.proofs.schedule.latency.Given as goal

abbrev pub invariant-outputs : goal.invariant-outputs
invariant-outputs l = max l.most (latency l.nodes (slot_at l.slots) (drop l.output-index l.outputs))
    ≡ latency l.nodes (slot_at l.slots) l.outputs
