use Rattle.std.proofs.Common.{ℕ, ◌<◌, get_or}
use Rattle.std.specs.Prelude.{ℤ}
use Rattle.opgen_ports.specs.Ranges.{IsNear}
use Rattle.opgen_ports.proofs.ranges.are_near.Given as goal

abbrev pub invariant-lsbs : goal.invariant-lsbs
invariant-lsbs l = (k : ℕ) (d : ℤ) → k < l.lsb-index → IsNear (get_or l.lsbs k d)
