use Rattle.std.proofs.Common.{◌≡◌, drop}
use Rattle.std.specs.List.{list_all}
use Rattle.opgen_schedule.specs.Fitting.{comes_first}
use Rattle.opgen_schedule.specs.Stage.{slot_at}
use Rattle.opgen_schedule.proofs.fitting.come_first.Given as goal

abbrev pub invariant-reads : goal.invariant-reads
invariant-reads l = list_all (λ j. comes_first l.delay l.own (slot_at l.slots j)) (drop l.read-index l.reads)
    ≡ list_all (λ j. comes_first l.delay l.own (slot_at l.slots j)) l.reads
