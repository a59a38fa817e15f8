use Rattle.std.proofs.Common.{take}
use Rattle.opgen_sim.specs.Tables.{AreTables}
use Rattle.opgen_sim.proofs.tables.tables.Given as goal

abbrev pub invariant-loop-driver : goal.invariant-loop-driver
invariant-loop-driver l = AreTables (take l.driver-index l.drivers) l.tables.items
