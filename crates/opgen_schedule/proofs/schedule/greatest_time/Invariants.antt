use Rattle.std.proofs.Common.{◌≡◌, drop}
use Rattle.std.specs.Prelude.{max}
use Rattle.opgen_schedule.specs.Schedule.{greatest_time}
use Rattle.opgen_schedule.proofs.schedule.greatest_time.Given as goal

abbrev pub invariant-slots : goal.invariant-slots
invariant-slots l = max l.most (greatest_time (drop l.slot-index l.slots)) ≡ greatest_time l.slots
