use Rattle.std.proofs.Common.{◌≡◌, take}
use Rattle.opgen_schedule.specs.Moves.{seats_of}
use Rattle.opgen_schedule.proofs.later.seats.Given as goal

abbrev pub invariant-cycles : goal.invariant-cycles
invariant-cycles l = l.seats.items ≡ seats_of l.latency (take l.cycle-index l.cycles)
