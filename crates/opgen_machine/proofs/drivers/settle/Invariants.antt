use Rattle.std.proofs.Common.{ℕ, take}
use Rattle.opgen_machine.specs.Layout.{spots_of}
use Rattle.opgen_machine.specs.Settles.{Settles}
use Rattle.opgen_machine.proofs.drivers.settle.Given as goal

abbrev pub invariant-loop-place : goal.invariant-loop-place
invariant-loop-place l =
    (low : ℕ) → Settles low l.base l.drivers l.tables (take l.place-index l.order)
    (spots_of l.initial.spots) l.steps.items (spots_of l.spots)
