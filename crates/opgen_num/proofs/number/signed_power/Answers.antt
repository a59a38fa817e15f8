use Rattle.std.proofs.Common.{◌≤◌, ◌^◌, arith}
use Rattle.std.proofs.Math.Nat.{pow-le-pow_right}
use Rattle.std.proofs.lemmas.Int.{ints}
use Rattle.opgen_num.proofs.number.signed_power.Goals as goal

pub overflow_cast-result : goal.overflow_cast-result
overflow_cast-result c =
    let few : 2 ^ c.args.places ≤ 2 ^ 96 = pow-le-pow_right (omega arith) c.requires in
    let value = c.power.ensures.value in
    omega (arith, ints, few, value)

pub returns-clause-value : goal.returns-clause-value
returns-clause-value c =
    let few : 2 ^ c.args.places ≤ 2 ^ 96 = pow-le-pow_right (omega arith) c.requires in
    let value = c.power.ensures.value in
    omega (arith, ints, few, value)

pub returns-clause-some : goal.returns-clause-some
returns-clause-some c =
    let few : 2 ^ c.args.places ≤ 2 ^ 96 = pow-le-pow_right (omega arith) c.requires in
    let value = c.power.ensures.value in
    omega (arith, ints, few, value)

pub returns-clause-few : goal.returns-clause-few
returns-clause-few c =
    let few : 2 ^ c.args.places ≤ 2 ^ 96 = pow-le-pow_right (omega arith) c.requires in
    let value = c.power.ensures.value in
    omega (arith, ints, few, value)
