use Rattle.std.proofs.Common.{arith}
use Rattle.std.proofs.lemmas.Int.{to_z-of_z}
use Rattle.opgen_ports.proofs.shifts.scaled.Goals as goal

pub overflow_mul-result : goal.overflow_mul-result
overflow_mul-result c =
    rw (c.power.ensures.value, c.places_up.ensures) (simp (to_z-of_z, c.ranges.shift) (omega (arith, c.requires.small)))
