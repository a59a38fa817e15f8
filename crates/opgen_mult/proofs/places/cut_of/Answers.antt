use Rattle.std.proofs.Common.{◌≤◌, ◌-◌, ◌^◌, arith}
use Rattle.std.proofs.Math.Nat.{pow-le-pow_right}
use Rattle.opgen_mult.proofs.places.cut_of.Goals as goal

pub returns-clause-small : goal.returns-clause-small
returns-clause-small c =
    let few : c.bits_below-below.result - 1 ≤ 48 = omega (arith, c.bits_below-below.ensures.few) in
    let small : 2 ^ (c.bits_below-below.result - 1) ≤ 2 ^ 48 = pow-le-pow_right (omega arith) few in
    omega (arith, c.drop_columns.ensures.constant, small)
