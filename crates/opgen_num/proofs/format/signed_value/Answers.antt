use Rattle.std.proofs.Common.{◌^◌, length, ap, arith}
use Rattle.std.proofs.lemmas.Int.{ints}
use Rattle.std.proofs.lemmas.Nat.{one_shl, pow_below}
use Rattle.opgen_num.proofs.Values.{int-low, int-high}
use Rattle.opgen_num.proofs.Words.{nat-below}
use Rattle.opgen_num.proofs.format.signed_value.Goals as goal

pub returns-then-bits-power : goal.returns-then-bits-power
returns-then-bits-power c =
    let width = ap (λ n. 2 ^ n) c.width.ensures in
    let power = one_shl c.width.result 128 (omega arith) in
    let small = pow_below c.width.result 126 (omega arith) in
    let below = nat-below c.args.word in
    omega (arith, ints, int-low c.args.word (omega (arith, ints)))

pub returns-else-bits-power : goal.returns-else-bits-power
returns-else-bits-power c =
    let width = ap (λ n. 2 ^ n) c.width.ensures in
    let power = one_shl c.width.result 128 (omega arith) in
    let small = pow_below c.width.result 126 (omega arith) in
    let below = nat-below c.args.word in
    omega (arith, ints, int-high c.args.word (omega (arith, ints)))

pub overflow_cast-bits : goal.overflow_cast-bits
overflow_cast-bits c =
    let small = pow_below (length c.args.word) 126 (omega arith) in
    omega (arith, nat-below c.args.word)

pub overflow_add-bits : goal.overflow_add-bits
overflow_add-bits c =
    let small = pow_below (length c.args.word) 126 (omega arith) in
    omega (arith, ints, nat-below c.args.word)

pub overflow_sub-result : goal.overflow_sub-result
overflow_sub-result c =
    let width = ap (λ n. 2 ^ n) c.width.ensures in
    let power = one_shl c.width.result 128 (omega arith) in
    let small = pow_below c.width.result 126 (omega arith) in
    let below = nat-below c.args.word in
    omega (arith, ints)
