use Rattle.std.proofs.Common.{◌≡◌, map, take}
use Rattle.opgen_schedule.specs.declared.slot.Slot.{Slot}
use Rattle.opgen_schedule.proofs.earlier.cycles_of.Given as goal

abbrev pub invariant-slots : goal.invariant-slots
invariant-slots l = l.cycles.items ≡ map (λ (p : Slot). p.cycle) (take l.slot-index l.slots)
