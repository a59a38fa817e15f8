use Rattle.std.proofs.Common.{◌≡◌, drop}
use Rattle.std.specs.List.{fold}
use Rattle.opgen_schedule.specs.Moves.{read_by, seated}
use Rattle.opgen_schedule.proofs.later.take_seat.Given as goal

abbrev pub invariant-reads : goal.invariant-reads
invariant-reads l = fold (read_by l.slot) l.seats (drop l.read-index l.read-items) ≡ seated l.slot l.place l.vertex l.fn.seats
