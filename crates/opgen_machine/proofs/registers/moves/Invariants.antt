use Rattle.std.proofs.Common.{take}
use Rattle.opgen_machine.specs.Layout.{spots_of}
use Rattle.opgen_machine.specs.Programs.{widths_of}
use Rattle.opgen_machine.specs.Moves.{HandsOn}
use Rattle.opgen_machine.proofs.registers.moves.Given as goal

abbrev pub invariant-loop-driver : goal.invariant-loop-driver
invariant-loop-driver l = HandsOn l.base (spots_of l.spots) l.enable (widths_of l.spots.signals.items)
    (take l.driver-index l.drivers) l.fn.steps.items l.steps.items l.moves.items
