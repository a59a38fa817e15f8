-- What runs a design, and the registers' words that it holds.
use Rattle.std.specs.Prelude.{Bool, List}
use Rattle.opgen_design.specs.declared.design.Design.{Design}
use Rattle.opgen_machine.specs.Machines.{IsMachineOf, registers}
use Rattle.opgen_sim.specs.declared.engine.Engine.{Engine}
use Rattle.opgen_sim.specs.declared.engine.Engine.TheVariants.{Flat, Wide}
use Rattle.opgen_sim.specs.declared.walker.Walker.{Walker}
use Rattle.opgen_sim.specs.Ready.{IsReady}

abbrev pub IsWalkerOf : Design → Walker → Type 0
IsWalkerOf d w = IsReady d w.order.items w.tables.items w.words.items w.next.items w.ports.items

abbrev pub IsEngineOf : Design → Engine → Type 0
IsEngineOf d (Flat machine) = IsMachineOf d machine
IsEngineOf d (Wide walker) = IsWalkerOf d walker

-- the words of the signals now
abbrev pub registers_of : Design → Engine → List (List Bool)
registers_of d (Flat machine) = registers d machine.memory.items
registers_of d (Wide walker) = walker.words.items
