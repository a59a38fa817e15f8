use Rattle.std.proofs.Common.{length, take}
use Rattle.opgen_machine.specs.Laid.{AreLaid, Grown}
use Rattle.opgen_machine.proofs.tables.lay_all.Given as goal

abbrev pub invariant-loop-driver : goal.invariant-loop-driver
invariant-loop-driver l = record {
  grown : Grown l.initial.memory.items l.memory.items;
  laid : AreLaid (length l.initial.memory.items) l.memory.items (take l.driver-index l.drivers) l.places.items;
}
