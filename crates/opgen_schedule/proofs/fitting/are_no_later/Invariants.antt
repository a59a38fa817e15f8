use Rattle.std.proofs.Common.{◌≡◌, drop}
use Rattle.std.specs.Prelude.{nat_le}
use Rattle.std.specs.List.{list_all}
use Rattle.opgen_schedule.specs.Stage.{slot_at}
use Rattle.opgen_schedule.proofs.fitting.are_no_later.Given as goal

abbrev pub invariant-reads : goal.invariant-reads
invariant-reads l = list_all (λ j. nat_le (slot_at l.slots j).cycle l.cycle) (drop l.read-index l.reads)
    ≡ list_all (λ j. nat_le (slot_at l.slots j).cycle l.cycle) l.reads
