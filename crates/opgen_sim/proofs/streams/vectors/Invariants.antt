use Rattle.std.proofs.Common.{◌≡◌, ◌+◌, drop, length}
use Rattle.std.specs.List.{sum}
use Rattle.opgen_sim.proofs.streams.vectors.Given as goal

abbrev pub invariant-loop-width : goal.invariant-loop-width
invariant-loop-width l = length l.vectors.items + sum (drop l.width-index l.widths) ≡ sum l.widths
