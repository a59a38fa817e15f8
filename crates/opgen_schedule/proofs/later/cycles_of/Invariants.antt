use Rattle.std.proofs.Common.{◌≡◌, map, take}
use Rattle.opgen_schedule.specs.declared.later.Seat.{Seat}
use Rattle.opgen_schedule.proofs.later.cycles_of.Given as goal

abbrev pub invariant-seats : goal.invariant-seats
invariant-seats l = l.cycles.items ≡ map (λ (s : Seat). s.cycle) (take l.seat-index l.seats)
