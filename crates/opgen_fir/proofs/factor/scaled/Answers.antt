use Rattle.std.proofs.Common.{◌*◌, ◌≤◌, ◌^◌, unsigned_abs, arith}
use Rattle.std.specs.Int.{w64, w128}
use Rattle.std.proofs.lemmas.Int.{to_z-of_z}
use Rattle.std.proofs.lemmas.Nat.{mul-le}
use Rattle.opgen_num.proofs.BitLength.{power_order}
use Rattle.opgen_fir.proofs.factor.scaled.Goals as goal

pub raised-requires-clause-small : goal.raised-requires-clause-small
raised-requires-clause-small c =
    let power : 2 ^ c.args.places ≤ 2 ^ 64 = power_order c.args.places 64 c.requires.few in
    let most : unsigned_abs c.args.number * 2 ^ c.args.places ≤ 2 ^ 30 * 2 ^ 64 =
    mul-le (unsigned_abs c.args.number) (2 ^ c.args.places) (2 ^ 30) (2 ^ 64) c.requires.small power in
    rw (
      to_z-of_z w128 c.into.result (record { sfits = c.into.type_inv }),
      c.into.ensures,
      to_z-of_z w64 c.args.number c.ranges.number,
    ) (omega (arith, most))
