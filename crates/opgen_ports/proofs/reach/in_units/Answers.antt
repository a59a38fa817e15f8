use Rattle.std.proofs.Common.{◌≤◌, ◌^◌, arith}
use Rattle.std.proofs.lemmas.Int.{to_z-of_z}
use Rattle.opgen_ports.proofs.Bounds.{rounded}
use Rattle.opgen_ports.proofs.reach.in_units.Goals as goal

pub scaled-requires-clause-small : goal.scaled-requires-clause-small
scaled-requires-clause-small c = simp (to_z-of_z, c.ranges.shift) (omega (arith, c.requires.numerator))

pub returns-clause-bound : goal.returns-clause-bound
returns-clause-bound c =
    let scaled : c.scaled.result ≤ 2 ^ 119 = rw c.scaled.ensures (simp (to_z-of_z, c.ranges.shift) c.requires.numerator) in
    rw c.div_ceil.ensures (omega (arith, scaled, rounded c.scaled.result c.units.result c.units.ensures.positive))
