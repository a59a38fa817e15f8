use Rattle.std.proofs.Common.{◌≡◌, drop}
use Rattle.std.specs.Prelude.{max}
use Rattle.opgen_schedule.specs.Schedule.{greatest}
use Rattle.opgen_schedule.proofs.schedule.greatest.Given as goal

abbrev pub invariant-delays : goal.invariant-delays
invariant-delays l = max l.most (greatest (drop l.delay-index l.delays)) ≡ greatest l.delays
