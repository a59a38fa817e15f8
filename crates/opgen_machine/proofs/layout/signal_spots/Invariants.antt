use Rattle.std.proofs.Common.{◌≡◌, ◌++◌, drop, map}
use Rattle.opgen_machine.specs.Layout.{spots_from}
use Rattle.opgen_machine.proofs.layout.signal_spots.Given as goal

abbrev pub invariant-loop-place : goal.invariant-loop-place
invariant-loop-place l = l.spots.items ++ spots_from l.place (map (λ s. s.width) (drop l.place l.signals)) ≡ spots_from 0
    (map (λ s. s.width) l.signals)
